-- A tile at odd parity, row of blocks by row.
use Rattle.std.specs.Prelude.{◌≡◌, ℕ, ◌+◌, ◌*◌, ◌<◌, Bool, slice_index}
use Rattle.bit_tile.specs.Bit.{bit}
use Rattle.bit_tile.specs.declared.Tile.{Tile}
use Rattle.block_rule.specs.Around.{is_walled_at}
use Rattle.block_rule.specs.Cell.{turned_cell}
use Rattle.block_rule.specs.declared.blocks.Blocks.{Blocks}

-- the upper and the lower words of a row of odd blocks after rules of their columns
pub record AreUpper (left_rule right_rule : ℕ → Bool → Bool → Bool → Bool → Bool) (window : ℕ → ℕ → Bool) (y ul ur : ℕ) : Type 0 where
  pub left : (i : ℕ) → i < 32 → bit ul i ≡ left_rule i (window (2 * i + 2) y) (window (2 * i + 3) y) (window (2 * i + 2) (y + 1)) (window (2 * i + 3) (y + 1))
  pub right : (i : ℕ) → i < 32 → bit ur i ≡ right_rule i (window (2 * i + 1) y) (window (2 * i) y) (window (2 * i + 1) (y + 1)) (window (2 * i) (y + 1))

pub record AreLower (left_rule right_rule : ℕ → Bool → Bool → Bool → Bool → Bool) (window : ℕ → ℕ → Bool) (y ll lr : ℕ) : Type 0 where
  pub left : (i : ℕ) → i < 32 → bit ll i ≡ left_rule i (window (2 * i + 2) (y + 1)) (window (2 * i + 3) (y + 1)) (window (2 * i + 2) y) (window (2 * i + 3) y)
  pub right : (i : ℕ) → i < 32 → bit lr i ≡ right_rule i (window (2 * i + 1) (y + 1)) (window (2 * i) (y + 1)) (window (2 * i + 1) y) (window (2 * i) y)

-- the row that begins in the tile's odd row j, after the rule of each cell
pub record AreMadeOdd (rule : ℕ → ℕ → Bool → Bool → Bool → Bool → Bool) (window : ℕ → ℕ → Bool) (j : ℕ) (new : Blocks) : Type 0 where
  pub upper : AreUpper (λ i. rule (2 * i + 1) (2 * j + 1)) (λ i. rule (2 * i + 0) (2 * j + 1)) window (2 * j + 2) new.upper_left new.upper_right
  pub lower : AreLower (λ i. rule (2 * i + 1) (2 * (j + 1) + 0)) (λ i. rule (2 * i + 0) (2 * (j + 1) + 0)) window (2 * j + 2) new.lower_left new.lower_right

-- what the collision makes of a row of odd blocks, of which these words name the walled ones
pub record IsCollidedOdd (begin end : ℕ) (window : ℕ → ℕ → Bool) (y : ℕ) (new : Blocks) : Type 0 where
  pub upper : AreUpper (λ i. turned_cell (bit begin i)) (λ i. turned_cell (bit end i)) window y new.upper_left new.upper_right
  pub lower : AreLower (λ i. turned_cell (bit begin i)) (λ i. turned_cell (bit end i)) window y new.lower_left new.lower_right

-- the rule of a cell among walled blocks
abbrev pub rule_among : (ℕ → ℕ → Bool) → ℕ → ℕ → Bool → Bool → Bool → Bool → Bool
rule_among solid x y = turned_cell (is_walled_at 1 solid x y)

-- The words of the tile's rows 2 * j + 1 and 2 * j + 2 are made: those of row j of the odd blocks inside it.
pub record AreWordsMade (window solid : ℕ → ℕ → Bool) (out : Tile) (j : ℕ) : Type 0 where
  pub upper : AreUpper (λ i. rule_among solid (2 * i + 1) (2 * j + 1)) (λ i. rule_among solid (2 * i + 0) (2 * j + 1)) window (2 * j + 2) (slice_index out.odd_odd j) (slice_index out.even_odd j)
  pub lower : AreLower (λ i. rule_among solid (2 * i + 1) (2 * (j + 1) + 0)) (λ i. rule_among solid (2 * i + 0) (2 * (j + 1) + 0)) window (2 * j + 2) (slice_index out.odd_even (j + 1)) (slice_index out.even_even (j + 1))

-- and those of the rows of odd blocks before row n
abbrev pub AreMadeUpTo : ℕ → (ℕ → ℕ → Bool) → (ℕ → ℕ → Bool) → Tile → Type 0
AreMadeUpTo n window solid out = (j : ℕ) → j < n → j < 31 → AreWordsMade window solid out j
