use Rattle.std.proofs.Common.{◌≡◌, ◌<◌, ◌+◌, ℕ, false, take}
use Rattle.phase_step.specs.Exchanges.{is_in_any}
use Rattle.phase_step.proofs.exchanges.set_cells.are_apart.Given as goal

abbrev pub invariant-loop-area : goal.invariant-loop-area
invariant-loop-area l = (x y : ℕ) → x < 64 → y < 64 → is_in_any (take l.area-index l.areas) (l.left + x) (l.top + y) ≡ false
