use Rattle.std.proofs.Common.{◌≡◌, pos, subst}
use Rattle.gas_terms.specs.Cells.{joined, tile_rectangle}
use Rattle.block_rule.specs.Windows.{taken_in}
use Rattle.phase_step.specs.Turns.{IsTileAfter}
use Rattle.phase_team.proofs.phase.shift.Task.turn.Goals as goal

pub returns : goal.returns
returns c =
    let t = c.args.self in
    record {
      cells = subst (λ i. IsTileAfter t.parity t.old.now (joined t.walls.now t.obstacles.now) i c.turn_tile_at.new.out) c.position-at.ensures.tile c.turn_tile_at.ensures.cells;
      took = subst (λ i. c.turn_tile_at.result ≡ taken_in (pos t.parity) t.old.now t.walls.now t.obstacles.now (tile_rectangle t.old.now i)) c.position-at.ensures.tile c.turn_tile_at.ensures.took;
    }
