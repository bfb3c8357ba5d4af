use Rattle.std.proofs.Common.{◌≡◌, ℕ, ◌+◌, ◌<◌}
use Rattle.bit_tile.specs.Tile.{has}
use Rattle.tile_border.specs.Ring.{ring}
use Rattle.tile_border.proofs.border.Border.beside.Given as goal

abbrev pub invariant-loop-y : goal.invariant-loop-y
invariant-loop-y l =
    record {
      left : (k : ℕ) → k < l.y → ring l.self 0 (k + 1) ≡ has l.left 63 k;
      right : (k : ℕ) → k < l.y → ring l.self 65 (k + 1) ≡ has l.right 0 k;
    }
