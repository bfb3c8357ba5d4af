use Rattle.phase_step.proofs.SolidBlocks.{is_so}
use Rattle.phase_step.proofs.steps.solids.Solids.of.Goals as goal

pub invariant_of-result : goal.invariant_of-result
invariant_of-result c =
    let now = c.in_ok-of_obstacles.ensures in
    record {
      sides = c.requires;
      no_walls = λ e. c.is_empty-some_walls.ensures.0 (is_so c.is_empty-some_walls.result e);
      no_obstacles = λ e. c.is_empty-some_obstacles.ensures.0 (is_so c.is_empty-some_obstacles.result e);
      obstructed = now;
      walled = c.in_ok-of_all.ensures c.args.obstacles (c.requires, now);
    }
