use Rattle.std.proofs.Common.{◌*◌, ◌<◌, ◌≤◌, ℕ, get_or}
use Rattle.gas_terms.specs.Cells.{without}
use Rattle.gas_terms.specs.Rows.{row_replaced}
use Rattle.gas_plane.specs.Counts.{AreCounts}
use Rattle.gas_terms.proofs.RowSums.{strip}
use Rattle.gas_ledger.proofs.change.row_change.Given as goal

abbrev pub invariant-loop-column : goal.invariant-loop-column
invariant-loop-column l =
    record {
      gained : AreCounts l.gained (without (row_replaced l.plane l.y l.bytes) l.plane) (strip l.y (l.column * 64));
      lost : AreCounts l.lost (without l.plane (row_replaced l.plane l.y l.bytes)) (strip l.y (l.column * 64));
      few_gained : (k : ℕ) → k < 4 → get_or l.gained k 0 ≤ 64 * l.column;
      few_lost : (k : ℕ) → k < 4 → get_or l.lost k 0 ≤ 64 * l.column;
    }
