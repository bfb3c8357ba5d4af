use Rattle.std.specs.Io.KnownBytes.{Appends}
use Rattle.std.specs.List.{flat_map, range_with_len}
use Rattle.gas_terms.specs.Rows.{row_bytes}
use Rattle.gas_snapshot.proofs.writer.write_rows.Given as goal

abbrev pub invariant-loop-y : goal.invariant-loop-y
invariant-loop-y g l = Appends (g.W.Write.contents l.fn.writer) (g.W.Write.contents l.writer) (flat_map (row_bytes l.plane) (range_with_len 0 l.y))
