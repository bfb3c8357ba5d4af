use Rattle.std.proofs.Common.{◌≡◌, ◌++◌, ◌+◌, ◌*◌, length, take}
use Rattle.std.specs.List.{flat_map}
use Rattle.gas_snapshot.specs.Spelling.{drain}
use Rattle.gas_snapshot.proofs.page.put_drains.Given as goal

abbrev pub invariant-loop-area : goal.invariant-loop-area
invariant-loop-area l = (l.page ≡ l.fn.page ++ flat_map drain (take l.area-index l.drains)) × (length l.page ≡ length l.fn.page + 8 * l.area-index)
