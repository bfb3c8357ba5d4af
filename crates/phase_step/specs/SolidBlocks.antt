-- The blocks with a cell of a set, tile by tile.
use Rattle.std.specs.Prelude.{◌≡◌, ℕ, ◌+◌, ◌-◌, ◌*◌, ◌%◌, ◌<◌, ◌≤◌, ◌⊎◌, ◌&&◌, nat_le, nat_lt, Bool, true, false, List, [], length, replicate, slice_index, slice_index_or}
use Rattle.gas_terms.specs.Cells.{Cells, Rectangle, HasSidesOf, has, joined, is_inside, tile_count, tile_rectangle}
use Rattle.gas_terms.specs.Gas.{site_of, is_walled}
use Rattle.block_rule.specs.Shown.{HasNoCell}
use Rattle.block_rule.specs.TileBlocks.{NamesBlocks, AreGivenBlocks}
use Rattle.block_rule.specs.declared.blocks_in_tile.TileBlocks.{TileBlocks}
use Rattle.block_rule.specs.declared.walled.Counted.{Counted}
use Rattle.phase_step.specs.declared.steps.solids.TileSolids.{TileSolids}

-- the words of tile i
abbrev pub no_words : TileBlocks
no_words = record { even = []; odd = record { begin = []; end = [] } }

-- those that name no block
abbrev pub zero_words : TileBlocks
zero_words = record { even = replicate 32 0; odd = record { begin = replicate 33 0; end = replicate 33 0 } }

abbrev pub blocks_at : List TileBlocks → ℕ → TileBlocks
blocks_at blocks i = slice_index_or blocks i no_words

-- whether tile i's cell (x, y) is at a site of parity p that has a cell of the set
abbrev pub is_walled_in : Cells → ℕ → ℕ → ℕ → ℕ → Bool
is_walled_in set i p x y = is_walled set (site_of p set.width set.height ((tile_rectangle set i).x + x) ((tile_rectangle set i).y + y))

-- each tile has its words
pub record HaveAllTiles (set : Cells) (told : List ℕ) (words : List TileBlocks) : Type 0 where
  pub rows : length told ≡ tile_count set
  pub blocks : length words ≡ tile_count set

-- and they name the blocks that have a cell of the set
pub record AreBlocksOf (set : Cells) (told : List ℕ) (words : List TileBlocks) : Type 0 where
  pub all : HaveAllTiles set told words
  pub each : (i : ℕ) → i < tile_count set
      → NamesBlocks (slice_index told i) (blocks_at words i) (is_walled_in set i)

-- the walled blocks of tile i, and those of them that have an obstacle
pub record AreTileSolids (walls obstacles : Cells) (i : ℕ) (tile_solids : TileSolids) : Type 0 where
  pub of_all : AreGivenBlocks tile_solids.all (is_walled_in (joined walls obstacles) i)
  pub of_obstacles : AreGivenBlocks tile_solids.obstacles (is_walled_in obstacles i)

-- no site has a cell of the set
abbrev pub HasNoBlocks : Cells → Type 0
HasNoBlocks set = (i : ℕ) → i < tile_count set → (p : ℕ) → p < 2 → HasNoCell (is_walled_in set i p)

-- Below: what helps proofs.

-- the sets differ in a rectangle alone
pub record DifferIn (area : Rectangle) (before now : Cells) : Type 0 where
  pub sides : HasSidesOf before now
  pub outside : (x y : ℕ) → x < now.width → y < now.height → is_inside area x y ≡ false
      → has before x y ≡ has now x y

-- what a window that begins at the place (x, y) shows of a set, one cell before it
abbrev pub view_of : Cells → ℕ → ℕ → ℕ → ℕ → Bool
view_of set x y i j =
    has set ((x + i + set.width - 1) % set.width) ((y + j + set.height - 1) % set.height)

abbrev pub window_of : Cells → ℕ → ℕ → ℕ → Bool
window_of set i = view_of set (tile_rectangle set i).x (tile_rectangle set i).y

-- Whether `len` cells from `start` on have cell u of the window of place k, of n places of 64 cells on a circle. Its cell 1 is the
-- place's first.
abbrev pub is_reached : ℕ → ℕ → ℕ → ℕ → ℕ → Bool
is_reached start len n k u =
    let cell = (k * 64 + u + n * 64 - 1) % (n * 64) in
    nat_le start cell && nat_lt cell (start + len)

-- and they have none of that window
abbrev pub IsFar : ℕ → ℕ → ℕ → ℕ → Type 0
IsFar start len n k = (u : ℕ) → u ≤ 65 → is_reached start len n k u ≡ false

-- or none outside its rows 2 * from to 2 * end - 1
pub record IsNearIn (from end start len n k : ℕ) : Type 0 where
  pub within : end ≤ 33
  pub outside : (u : ℕ) → u ≤ 65 → (u < 2 * from) ⊎ (2 * end ≤ u) → is_reached start len n k u ≡ false

-- the words of the tiles below n are those of the set as it is now, and the others those of the set as it was before
pub record AreRenewedUpTo (n : ℕ) (before now : Cells) (told : List ℕ) (words : List TileBlocks) : Type 0 where
  pub done : (i : ℕ) → i < n → i < tile_count now
      → NamesBlocks (slice_index told i) (blocks_at words i) (is_walled_in now i)
  pub rest : (i : ℕ) → n ≤ i → i < tile_count now
      → NamesBlocks (slice_index told i) (blocks_at words i) (is_walled_in before i)

-- the accounts that are kept are of sets without blocks
pub record AreOfNone (kept : Counted) (w o : Cells) : Type 0 where
  pub walls : kept.walls ≡ true → HasNoBlocks w
  pub obstacles : kept.obstacles ≡ true → HasNoBlocks o
