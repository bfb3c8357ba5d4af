use Rattle.std.specs.Prelude.{◌≡◌, ℕ, ◌+◌, ◌-◌, ◌*◌, ◌<◌, ◌≤◌, ◌⊎◌, Bool, List, slice_index}
use Rattle.bit_tile.specs.Bit.{bit}
use Rattle.bit_tile.specs.declared.Tile.{Tile}
use Rattle.block_rule.specs.Around.{is_block_walled, is_walled_at}
use Rattle.block_rule.specs.Cell.{turned_cell}
use Rattle.block_rule.specs.Rows.{IsMade, even_row}
use Rattle.block_rule.specs.declared.blocks_in_tile.OddBlocks.{OddBlocks}

-- The words name the walled blocks of odd parity: word k of both is of row k of blocks, which begins at the window's row 2 * k. Bit
-- i stands for the block that begins in the tile's odd column i, or that ends in its even column i.
pub record NameBlocks (begins ends : ℕ → ℕ) (solid : ℕ → ℕ → Bool) : Type 0 where
  pub begin : (i k : ℕ) → i < 32 → k < 33 → bit (begins k) i ≡ is_block_walled solid (2 * i + 2) (2 * k)
  pub end : (i k : ℕ) → i < 32 → k < 33 → bit (ends k) i ≡ is_block_walled solid (2 * i) (2 * k)

-- The words name the walled blocks of even parity: bit i of word j is of the block at columns 2 * i and 2 * i + 1 and rows 2 * j and
-- 2 * j + 1.
abbrev pub NameEvenBlocks : (ℕ → ℕ) → (ℕ → ℕ → Bool) → Type 0
NameEvenBlocks words solid = (i j : ℕ) → i < 32 → j < 32 → bit (words j) i ≡ is_walled_at 0 solid (2 * i) (2 * j)

-- The rows of even blocks from `from` up to `to` have turned, and the others are as before.
pub record AreCollidedEven (from to : ℕ) (solid : ℕ → ℕ → Bool) (old new : Tile) : Type 0 where
  pub done : (j : ℕ) → from ≤ j → j < to → IsMade (λ i. turned_cell (is_walled_at 0 solid (2 * i) (2 * j))) (even_row old j) (even_row new j)
  pub rest : (j : ℕ) → (j < from) ⊎ (to ≤ j) → even_row new j ≡ even_row old j

-- The words name the blocks of even parity, or of odd, that are filled by the cells that pass the test. A block of odd parity is
-- named by the tile's cell in it: row k of blocks is that of row 2 * k - 1, or of row 0.
abbrev pub AreEvenBlocksOf : List ℕ → (ℕ → ℕ → Bool) → Type 0
AreEvenBlocksOf words test = (i j : ℕ) → i < 32 → j < 32 → bit (slice_index words j) i ≡ test (2 * i) (2 * j)

pub record AreOddBlocksOf (b : OddBlocks) (test : ℕ → ℕ → Bool) : Type 0 where
  pub begin : (i k : ℕ) → i < 32 → k < 33 → bit (slice_index b.begin k) i ≡ test (2 * i + 1) (2 * k - 1)
  pub end : (i k : ℕ) → i < 32 → k < 33 → bit (slice_index b.end k) i ≡ test (2 * i + 0) (2 * k - 1)
