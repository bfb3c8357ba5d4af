-- The collision at odd parity in place.
use Rattle.std.specs.Prelude.{◌≡◌, ℕ, ◌+◌, ◌*◌, ◌<◌, ◌≤◌, ◌⊎◌, Bool, List, slice_index}
use Rattle.bit_tile.specs.Bit.{bit}
use Rattle.bit_tile.specs.Tile.{has}
use Rattle.bit_tile.specs.declared.Tile.{Tile}
use Rattle.block_rule.specs.Around.{is_block_walled, turned_window}
use Rattle.block_rule.specs.Rows.{odd_row, beside_right}
use Rattle.block_rule.specs.declared.blocks.Blocks.{Blocks}
use Rattle.block_rule.specs.declared.blocks.Beside.{Beside}
use Rattle.block_rule.specs.declared.in_place.Carry.{Carry}

-- The words show the row of blocks that begin in a tile's row 2 * j + 1: those of the tile, and those of the tile to the right.
pub record ShowsBegun (window : ℕ → ℕ → Bool) (j : ℕ) (own : Blocks) (right : Beside) : Type 0 where
  pub upper_left : (i : ℕ) → i < 32 → window (2 * i + 2) (2 * j + 2) ≡ bit own.upper_left i
  pub upper_right : (i : ℕ) → i < 32 → window (2 * i + 1) (2 * j + 2) ≡ bit own.upper_right i
  pub lower_left : (i : ℕ) → i < 32 → window (2 * i + 2) (2 * j + 3) ≡ bit own.lower_left i
  pub lower_right : (i : ℕ) → i < 32 → window (2 * i + 1) (2 * j + 3) ≡ bit own.lower_right i
  pub right_upper : window 65 (2 * j + 2) ≡ bit right.upper 0
  pub right_lower : window 65 (2 * j + 3) ≡ bit right.lower 0

-- a word names the walled blocks of this row
abbrev pub NamesRow : ℕ → (ℕ → ℕ → Bool) → ℕ → Type 0
NamesRow word solid j = (i : ℕ) → i < 32 → bit word i ≡ is_block_walled solid (2 * i + 2) (2 * j + 2)

-- the words have the cells that pass the test, of the tile's rows 2 * j + 1 and 2 * j + 2
pub record IsRowTurned (new : Blocks) (test : ℕ → ℕ → Bool) (j : ℕ) : Type 0 where
  pub upper_left : (i : ℕ) → i < 32 → bit new.upper_left i ≡ test (2 * i + 1) (2 * j + 1)
  pub upper_right : (i : ℕ) → i < 32 → bit new.upper_right i ≡ test (2 * i) (2 * j + 1)
  pub lower_left : (i : ℕ) → i < 32 → bit new.lower_left i ≡ test (2 * i + 1) (2 * j + 2)
  pub lower_right : (i : ℕ) → i < 32 → bit new.lower_right i ≡ test (2 * i) (2 * j + 2)

-- The cells after the phase, but for a tile's first column: its cells come from the tile to the left.
abbrev pub TurnsInto : (ℕ → ℕ → Bool) → (ℕ → ℕ → Bool) → (ℕ → ℕ → Bool) → Type 0
TurnsInto window solid after = (x y : ℕ) → 1 ≤ x → after x y ≡ turned_window 1 window solid x y

-- what is carried into a column, of which the test tells the cell in each of the tile's rows
pub record IsLeaving (carried : Beside) (column : ℕ → Bool) (j : ℕ) : Type 0 where
  pub upper : bit carried.upper 31 ≡ column (2 * j + 1)
  pub lower : bit carried.lower 31 ≡ column (2 * j + 2)

-- A tile's rows 1 to 62 are seen in a window, and so is the first column of the tile to the right.
pub record IsInnerSeen (window : ℕ → ℕ → Bool) (t r : Tile) : Type 0 where
  pub tile : (x y : ℕ) → x < 64 → 1 ≤ y → y < 63 → window (x + 1) (y + 1) ≡ has t x y
  pub right : (y : ℕ) → 1 ≤ y → y < 63 → window 65 (y + 1) ≡ has r 0 y

-- And so is the row of blocks that begin in the tile's last row: in the tile, the one to its right, and those below both.
pub record IsSeamSeen (window : ℕ → ℕ → Bool) (t r d dr : Tile) : Type 0 where
  pub tile : (x : ℕ) → x < 64 → window (x + 1) 64 ≡ has t x 63
  pub right : window 65 64 ≡ has r 0 63
  pub below : (x : ℕ) → x < 64 → window (x + 1) 65 ≡ has d x 0
  pub below_right : window 65 65 ≡ has dr 0 0

-- Of the rows of blocks from..to that begin in a tile, the words are shown.
abbrev pub AreRowsSeen : ℕ → ℕ → (ℕ → ℕ → Bool) → Tile → Tile → Type 0
AreRowsSeen from to window t r = (j : ℕ) → from ≤ j → j < to → ShowsBegun window j (odd_row t j) (beside_right r j)

-- The words name their walled blocks: word k those of row k of blocks, which begins at the window's row 2 * k.
abbrev pub AreNamed : ℕ → ℕ → (ℕ → ℕ) → (ℕ → ℕ → Bool) → Type 0
AreNamed from to begins solid = (j : ℕ) → from ≤ j → j < to → NamesRow (begins (j + 1)) solid j

-- they have turned
abbrev pub HaveTurned : ℕ → ℕ → Tile → (ℕ → ℕ → Bool) → Type 0
HaveTurned from to t test = (j : ℕ) → from ≤ j → j < to → IsRowTurned (odd_row t j) test j

-- what is carried into a column, in a place of the carry
abbrev pub carried_row : Carry → ℕ → Beside
carried_row c p = record { upper = slice_index c.upper p; lower = slice_index c.lower p }

abbrev pub eight_leaving : List ℕ → List ℕ → ℕ → Beside
eight_leaving upper lower k = record { upper = slice_index upper k; lower = slice_index lower k }

-- in eight places from `at` on, for the rows of blocks from `from` on
abbrev pub AreEightCarried : ℕ → ℕ → Carry → (ℕ → Bool) → Type 0
AreEightCarried from at c column = (k : ℕ) → k < 8 → IsLeaving (carried_row c (at + k)) column (from + k)

-- the places of the rows of blocks from..to, which have the rows' numbers up to 23
abbrev pub AreCarried : ℕ → ℕ → Carry → (ℕ → Bool) → Type 0
AreCarried from to c column = (j : ℕ) → from ≤ j → j < to → IsLeaving (carried_row c j) column j

-- what is carried into a column, in the tile's rows 1 to 62
pub record IsCarried (c : Carry) (column : ℕ → Bool) : Type 0 where
  pub first : (j : ℕ) → j < 24 → IsLeaving (carried_row c j) column j
  pub last : (k : ℕ) → k < 8 → IsLeaving (carried_row c (24 + k)) column (23 + k)

-- The other places of the carry are as before, and so are the other rows of blocks.
abbrev pub AreOthersCarried : ℕ → ℕ → Carry → Carry → Type 0
AreOthersCarried from to before after = (p : ℕ) → (p < from) ⊎ (to ≤ p) → carried_row after p ≡ carried_row before p

pub record AreOthersKept (from to : ℕ) (old new : Tile) (before after : Carry) : Type 0 where
  pub rows : (j : ℕ) → (j < from) ⊎ (to ≤ j) → odd_row new j ≡ odd_row old j
  pub carried : AreOthersCarried from to before after

-- the words of a tile's first and last row of cells are as before
pub record AreEndsKept (old new : Tile) : Type 0 where
  pub top_even : slice_index new.even_even 0 ≡ slice_index old.even_even 0
  pub top_odd : slice_index new.odd_even 0 ≡ slice_index old.odd_even 0
  pub bottom_even : slice_index new.even_odd 31 ≡ slice_index old.even_odd 31
  pub bottom_odd : slice_index new.odd_odd 31 ≡ slice_index old.odd_odd 31

-- All cells are as before but those of the first column, in the rows after `from` up to `to`.
abbrev pub HasOtherCells : ℕ → ℕ → Tile → Tile → Type 0
HasOtherCells from to old new = (x y : ℕ) → x < 64 → y < 64 → (x ≡ 0 → from < y → y ≤ to → ⊥) → has new x y ≡ has old x y
