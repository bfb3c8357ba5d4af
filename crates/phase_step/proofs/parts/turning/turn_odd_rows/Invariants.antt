use Rattle.gas_terms.specs.Cells.{Cells, HasSidesOf}
use Rattle.gas_terms.specs.Gas.{streamed}
use Rattle.phase_step.specs.Parts.{IsPartOf}
use Rattle.phase_step.specs.OddPhase.{AreTurnedTo}
use Rattle.phase_step.specs.Solid.{all_of}
use Rattle.phase_step.proofs.parts.turning.turn_odd_rows.Given as goal

abbrev pub invariant-loop-row : goal.invariant-loop-row
invariant-loop-row l =
    let solid = all_of l.known.solids.now in
    let old = l.initial.particles in
    record {
      sides : HasSidesOf l.particles old;
      turned : (lattice : Cells) → HasSidesOf solid lattice → IsPartOf l.fn.part old lattice 63 → AreTurnedTo l.row l.fn.part (streamed 1 lattice solid) old l.particles;
    }
