use Rattle.std.proofs.Common.{◌∙◌, ap, sym}
use Rattle.gas_terms.specs.Cells.{Cells, HasSidesOf, joined}
use Rattle.phase_step.proofs.SolidBlocks.{filled_differs}
use Rattle.phase_step.proofs.Together.{walls_filled, tiles_alike}
use Rattle.phase_step.proofs.steps.solids.Solids.add_walls.Goals as goal
use Rattle.phase_step.proofs.steps.solids.Solids.add_walls.Goals.{After-fill}

sides : (c : After-fill) → HasSidesOf c.args.self.now.obstacles c.fill.new.self
sides c =
    let s = c.args.self.now in record { wide = s.sides.wide ∙ sym (ap (λ (c : Cells). c.width) c.fill.ensures); high = s.sides.high ∙ sym (ap (λ (c : Cells). c.height) c.fill.ensures) }

pub renew-requires : goal.renew-requires
renew-requires c =
    let s = c.args.self.now in
    let of = sides (goal.at.renew-requires c).After-fill in
    record {
      others = tiles_alike s.obstacles c.fill.new.self s.of_obstacles.rows.items s.of_obstacles.blocks.items of s.obstructed.all;
      all = tiles_alike s.walls c.fill.new.self s.of_all.rows.items s.of_all.blocks.items (record { wide = sym (ap (λ (c : Cells). c.width) c.fill.ensures); high = sym (ap (λ (c : Cells). c.height) c.fill.ensures) }) (record { rows = s.walled.all.rows; blocks = s.walled.all.blocks });
    }

pub invariant_of-self : goal.invariant_of-self
invariant_of-self c =
    let s = c.args.self.now in
    let of = sides (goal.at.invariant_of-self c).After-fill in
    let before = joined s.walls s.obstacles in
    record {
      sides = of;
      no_walls = λ e. absurd (cc);
      no_obstacles = s.no_obstacles;
      obstructed = s.obstructed;
      walled = c.renew.ensures before s.obstacles (of, s.obstructed) (filled_differs c.args.area before (joined c.fill.new.self s.obstacles) (ap (λ (w : Cells). joined w s.obstacles) c.fill.ensures ∙ sym (walls_filled s.walls s.obstacles c.args.area s.sides))) s.walled;
    }
