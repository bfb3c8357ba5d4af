use Rattle.std.proofs.Common.{◌≡◌, ℕ, ◌<◌, ◌/◌, false}
use Rattle.bit_tile.specs.Tile.{has}
use Rattle.bit_tile.proofs.Tile.is_empty.Given as goal

abbrev pub invariant-loop-j : goal.invariant-loop-j
invariant-loop-j l = record { empty : (x y : ℕ) → x < 64 → y / 2 < l.j → has l.self x y ≡ false }
