use Rattle.std.proofs.Common.{◌≤◌}
use Rattle.gas_terms.specs.Cells.{Cells, HasSidesOf}
use Rattle.gas_terms.specs.Gas.{streamed}
use Rattle.phase_step.specs.Parts.{IsPartOf}
use Rattle.phase_step.specs.OddPhase.{AreRowsMadeTo}
use Rattle.phase_step.specs.Solid.{all_of}
use Rattle.phase_step.proofs.parts.turning.turn_even_rows.Given as goal

abbrev pub invariant-loop-row : goal.invariant-loop-row
invariant-loop-row l =
    let solid = all_of l.known.solids.now in
    let old = l.initial.particles in
    record {
      own : l.fn.part.margin ≤ l.row;
      sides : HasSidesOf l.particles old;
      turned : (lattice : Cells) → HasSidesOf solid lattice → IsPartOf l.fn.part old lattice 64 → AreRowsMadeTo l.row l.fn.part (streamed 0 lattice solid) old l.particles;
    }
