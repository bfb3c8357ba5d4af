use Rattle.std.proofs.Common.{◌≡◌, ◌+◌}
use Rattle.gas_terms.specs.Cells.{HasSidesOf}
use Rattle.block_rule.specs.Accounts.{counted_of}
use Rattle.phase_step.specs.Amounts.{sum_first}
use Rattle.phase_step.specs.OddPhase.{AreTurnedTwice, once_turned, twice_turned}
use Rattle.phase_step.specs.Runs.{row_takes, takings}
use Rattle.phase_step.specs.Solid.{all_of}
use Rattle.phase_step.proofs.parts.sweeping.turn_both.Given as goal

abbrev pub invariant-loop-row : goal.invariant-loop-row
invariant-loop-row l =
    let s = l.fn.counting.known.solids.now in
    let old = l.fn.particles in
    record {
      sides : HasSidesOf l.particles old;
      turned : AreTurnedTwice l.row (once_turned (all_of s) old) (twice_turned (all_of s) old) old l.particles;
      took : l.took ≡ counted_of l.fn.counting.counted (sum_first takings (row_takes old s.walls s.obstacles) (l.row + 1));
    }
