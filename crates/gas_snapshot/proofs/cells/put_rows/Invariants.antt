use Rattle.std.proofs.Common.{◌≡◌, ◌*◌, take}
use Rattle.std.specs.List.{flat_map, range_with_len}
use Rattle.gas_terms.specs.Rows.{row_bytes}
use Rattle.gas_snapshot.proofs.cells.put_rows.Given as goal

abbrev pub invariant-loop-y : goal.invariant-loop-y
invariant-loop-y l = take (l.y * l.len) l.out ≡ flat_map (row_bytes l.plane) (range_with_len 0 l.y)
