use Rattle.std.proofs.Common.{◌≤◌}
use Rattle.gas_terms.specs.Cells.{Cells, HasSidesOf}
use Rattle.gas_terms.specs.Gas.{streamed}
use Rattle.phase_step.specs.Parts.{IsPartOf}
use Rattle.phase_step.specs.OddPhase.{AreTurnedOn}
use Rattle.phase_step.specs.Solid.{all_of}
use Rattle.phase_step.proofs.parts.strip_sweep.turn_strip.Given as goal

abbrev pub invariant-loop-row : goal.invariant-loop-row
invariant-loop-row l =
    let solid = all_of l.known.solids.now in
    let old = l.fn.particles in
    record {
      from : 1 ≤ l.row;
      sides : HasSidesOf l.particles old;
      turned : (lattice : Cells) → HasSidesOf solid lattice → IsPartOf l.fn.part old lattice 63 → AreTurnedOn l.row l.fn.part (streamed 1 lattice solid) (streamed 0 (streamed 1 lattice solid) solid) old l.particles;
    }
