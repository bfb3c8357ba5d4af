use Rattle.std.proofs.Common.{◌≡◌, ◌++◌, ◌+◌, ◌*◌, length, take}
use Rattle.std.specs.List.{flat_map}
use Rattle.gas_snapshot.specs.Spelling.{source}
use Rattle.gas_snapshot.proofs.page.put_sources.Given as goal

abbrev pub invariant-loop-source : goal.invariant-loop-source
invariant-loop-source l = (l.page ≡ l.fn.page ++ flat_map source (take l.source-index l.sources)) × (length l.page ≡ length l.fn.page + 10 * l.source-index)
