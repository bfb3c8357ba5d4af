use Rattle.std.proofs.Common.{◌≡◌}
use Rattle.gas_snapshot.proofs.Rows.{first_rows}
use Rattle.gas_snapshot.proofs.cells.plane_of.Given as goal

abbrev pub invariant-loop-y : goal.invariant-loop-y
invariant-loop-y l = l.plane ≡ first_rows l.fn.size l.bytes l.y
