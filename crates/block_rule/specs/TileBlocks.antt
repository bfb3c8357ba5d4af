use Rattle.std.specs.Prelude.{◌≡◌, ℕ, ◌*◌, ◌<◌, ◌≤◌, ◌⊎◌, Bool, Option, MatchOption}
use Rattle.block_rule.specs.Around.{is_walled_at}
use Rattle.block_rule.specs.Shown.{HasNoCell, TellsRows}
use Rattle.block_rule.specs.NamedBlocks.{AreEvenBlocksOf, AreOddBlocksOf}
use Rattle.block_rule.specs.declared.blocks_in_tile.TileBlocks.{TileBlocks}
use Rattle.block_rule.specs.declared.blocks_in_tile.SetBlocks.{SetBlocks}

-- The words name the blocks of each parity p whose cells in the tile pass the test of p, and one word tells in which rows they lie.
pub record NamesBlocks (row_pairs : ℕ) (b : TileBlocks) (test : ℕ → ℕ → ℕ → Bool) : Type 0 where
  pub even : AreEvenBlocksOf b.even (test 0)
  pub odd : AreOddBlocksOf b.odd (test 1)
  pub rows : (p : ℕ) → p < 2 → TellsRows row_pairs (test p)

-- the words that are given for a tile: none if no block is walled
abbrev pub AreGivenBlocks : Option SetBlocks → (ℕ → ℕ → ℕ → Bool) → Type 0
AreGivenBlocks given test = MatchOption given ((p : ℕ) → p < 2 → HasNoCell (test p)) (λ s. NamesBlocks s.rows s.blocks.now test)

-- the test of the blocks that have one of a window's cells
abbrev pub walled_by : (ℕ → ℕ → Bool) → ℕ → ℕ → ℕ → Bool
walled_by window p x y = is_walled_at p window x y

-- two windows differ in rows 2 * from to 2 * end - 1 alone
abbrev pub DifferInRows : ℕ → ℕ → (ℕ → ℕ → Bool) → (ℕ → ℕ → Bool) → Type 0
DifferInRows from end before now =
    (u v : ℕ) → u ≤ 65 → v ≤ 65 → (v < 2 * from) ⊎ (2 * end ≤ v) → before u v ≡ now u v
