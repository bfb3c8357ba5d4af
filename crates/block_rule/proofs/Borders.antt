-- A tile with its border is a window on the tiles round it.
use Rattle.std.proofs.Common.{◌≡◌, ℕ, ◌+◌, ◌<◌, false, ap₂, arith}
use Rattle.std.proofs.lemmas.Bool.{ne_eqb}
use Rattle.bit_tile.specs.Tile.{has}
use Rattle.bit_tile.specs.declared.Tile.{Tile}
use Rattle.tile_border.specs.Ring.{IsBorderOf}
use Rattle.tile_border.specs.declared.border.Border.{Border}
use Rattle.tile_border.specs.declared.border.Neighbors.{Neighbors}
use Rattle.block_rule.specs.Around.{around, is_outside}
use Rattle.block_rule.specs.Rows.{ShowsTile, ShowsRound}

inside : (x : ℕ) → x < 64 → is_outside (x + 1) ≡ false
inside x h = grind (arith, ne_eqb)

pub shows_tile : (t : Tile) (b : Border) → ShowsTile (around t b) t
shows_tile t b x y h k = rw (inside x h, inside y k) (ap₂ (has t) (omega arith) (omega arith))

pub shows_round : (t : Tile) (b : Border) (near : Neighbors) → IsBorderOf b near → ShowsRound (around t b) near
shows_round t b near is = grind (arith, inside)
