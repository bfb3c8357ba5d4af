use Rattle.std.specs.Prelude.{◌≡◌, ℕ, ◌+◌, ◌*◌, ◌<◌, Bool, slice_index}
use Rattle.bit_tile.specs.Bit.{bit}
use Rattle.bit_tile.specs.Tile.{has}
use Rattle.bit_tile.specs.declared.Tile.{Tile}
use Rattle.tile_border.specs.Ring.{near_tiles}
use Rattle.tile_border.specs.declared.Round.{Round}
use Rattle.tile_border.specs.declared.border.Neighbors.{Neighbors}
use Rattle.block_rule.specs.declared.blocks.Blocks.{Blocks}
use Rattle.block_rule.specs.declared.blocks.Beside.{Beside}
use Rattle.block_rule.specs.declared.blocks.EightRows.{EightRows}
use Rattle.block_rule.specs.declared.odd_rows.OddRow.{OddRow}

-- the window has the tile's cells
abbrev pub ShowsTile : (ℕ → ℕ → Bool) → Tile → Type 0
ShowsTile window t = (x y : ℕ) → x < 64 → y < 64 → window (x + 1) (y + 1) ≡ has t x y

-- and those of the eight tiles round it
pub record ShowsRound (window : ℕ → ℕ → Bool) (near : Neighbors) : Type 0 where
  pub above : (x : ℕ) → x < 64 → window (x + 1) 0 ≡ has near.above x 63
  pub below : (x : ℕ) → x < 64 → window (x + 1) 65 ≡ has near.below x 0
  pub left : (y : ℕ) → y < 64 → window 0 (y + 1) ≡ has near.left 63 y
  pub right : (y : ℕ) → y < 64 → window 65 (y + 1) ≡ has near.right 0 y
  pub above_left : window 0 0 ≡ has near.above_left 63 63
  pub above_right : window 65 0 ≡ has near.above_right 0 63
  pub below_left : window 0 65 ≡ has near.below_left 63 0
  pub below_right : window 65 65 ≡ has near.below_right 0 0

abbrev pub ShowsAllRound : (ℕ → ℕ → Bool) → Round → Type 0
ShowsAllRound window round = ShowsRound window (near_tiles round)

-- what is made of a row of blocks: of each corner of block i by its own old cell, and those beside it, facing it and across
pub record IsMade (cell : ℕ → Bool → Bool → Bool → Bool → Bool) (old new : Blocks) : Type 0 where
  pub upper_left : (i : ℕ) → i < 32 → bit new.upper_left i ≡ cell i (bit old.upper_left i) (bit old.upper_right i) (bit old.lower_left i) (bit old.lower_right i)
  pub upper_right : (i : ℕ) → i < 32 → bit new.upper_right i ≡ cell i (bit old.upper_right i) (bit old.upper_left i) (bit old.lower_right i) (bit old.lower_left i)
  pub lower_left : (i : ℕ) → i < 32 → bit new.lower_left i ≡ cell i (bit old.lower_left i) (bit old.lower_right i) (bit old.upper_left i) (bit old.upper_right i)
  pub lower_right : (i : ℕ) → i < 32 → bit new.lower_right i ≡ cell i (bit old.lower_right i) (bit old.lower_left i) (bit old.upper_right i) (bit old.upper_left i)

-- The words show the window's rows y and y + 1: blocks that begin at odd columns begin at the window's even ones.
pub record ShowsRows (window : ℕ → ℕ → Bool) (y : ℕ) (own : Blocks) (left right : Beside) : Type 0 where
  pub upper_left : (i : ℕ) → i < 32 → window (2 * i + 2) y ≡ bit own.upper_left i
  pub upper_right : (i : ℕ) → i < 32 → window (2 * i + 1) y ≡ bit own.upper_right i
  pub lower_left : (i : ℕ) → i < 32 → window (2 * i + 2) (y + 1) ≡ bit own.lower_left i
  pub lower_right : (i : ℕ) → i < 32 → window (2 * i + 1) (y + 1) ≡ bit own.lower_right i
  pub left_upper : window 0 y ≡ bit left.upper 31
  pub left_lower : window 0 (y + 1) ≡ bit left.lower 31
  pub right_upper : window 65 y ≡ bit right.upper 0
  pub right_lower : window 65 (y + 1) ≡ bit right.lower 0

-- a row of odd blocks shows them
abbrev pub ShowsOddRow : (ℕ → ℕ → Bool) → ℕ → OddRow → Type 0
ShowsOddRow window y row = ShowsRows window y row.own row.left row.right

-- what the rule makes of these rows
pub record IsMadeOdd (cell : Bool → Bool → Bool → Bool → Bool) (window : ℕ → ℕ → Bool) (y : ℕ) (new : Blocks) : Type 0 where
  pub upper_left : (i : ℕ) → i < 32 → bit new.upper_left i ≡ cell (window (2 * i + 2) y) (window (2 * i + 3) y) (window (2 * i + 2) (y + 1)) (window (2 * i + 3) (y + 1))
  pub upper_right : (i : ℕ) → i < 32 → bit new.upper_right i ≡ cell (window (2 * i + 1) y) (window (2 * i) y) (window (2 * i + 1) (y + 1)) (window (2 * i) (y + 1))
  pub lower_left : (i : ℕ) → i < 32 → bit new.lower_left i ≡ cell (window (2 * i + 2) (y + 1)) (window (2 * i + 3) (y + 1)) (window (2 * i + 2) y) (window (2 * i + 3) y)
  pub lower_right : (i : ℕ) → i < 32 → bit new.lower_right i ≡ cell (window (2 * i + 1) (y + 1)) (window (2 * i) (y + 1)) (window (2 * i + 1) y) (window (2 * i) y)

-- the words of a tile that lie in a row of blocks: where blocks begin at even columns and rows, and at odd ones
abbrev pub even_row : Tile → ℕ → Blocks
even_row t j =
    record {
      upper_left = slice_index t.even_even j;
      upper_right = slice_index t.odd_even j;
      lower_left = slice_index t.even_odd j;
      lower_right = slice_index t.odd_odd j;
    }

abbrev pub odd_row : Tile → ℕ → Blocks
odd_row t j =
    record {
      upper_left = slice_index t.odd_odd j;
      upper_right = slice_index t.even_odd j;
      lower_left = slice_index t.odd_even (j + 1);
      lower_right = slice_index t.even_even (j + 1);
    }

-- one of eight rows of blocks
abbrev pub eight_row : EightRows → ℕ → Blocks
eight_row r k =
    record {
      upper_left = slice_index r.upper_left k;
      upper_right = slice_index r.upper_right k;
      lower_left = slice_index r.lower_left k;
      lower_right = slice_index r.lower_right k;
    }

abbrev pub beside_left : Tile → ℕ → Beside
beside_left l j = record { upper = slice_index l.odd_odd j; lower = slice_index l.odd_even (j + 1) }

abbrev pub beside_right : Tile → ℕ → Beside
beside_right r j = record { upper = slice_index r.even_odd j; lower = slice_index r.even_even (j + 1) }

-- the window shows the rows of odd blocks that begin and end in a tile between two others
abbrev pub ShowsInnerRows : (ℕ → ℕ → Bool) → Tile → Tile → Tile → Type 0
ShowsInnerRows window t left right =
    (j : ℕ) → j < 31 → ShowsRows window (2 * j + 2) (odd_row t j) (beside_left left j) (beside_right right j)
