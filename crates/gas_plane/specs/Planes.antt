use Rattle.std.specs.Prelude.{◌≡◌, ℕ, ◌+◌, ◌-◌, ◌*◌, ◌/◌, ◌%◌, ◌<◌, ◌≤◌, Bool, true, false, ◌==◌, ◌&&◌, nat_lt, if◌then◌else◌}
use Rattle.bit_tile.specs.Tile as tile
use Rattle.bit_tile.specs.Bit.{bit}
use Rattle.bit_tile.specs.declared.Tile.{Tile}
use Rattle.tile_border.specs.Ring.{ring, IsOnRing}
use Rattle.tile_border.specs.declared.border.Border.{Border}
use Rattle.tile_border.specs.declared.Round.{Round}
use Rattle.gas_plane.specs.declared.around.Position.{Position}
use Rattle.gas_terms.specs.Cells.{Cells, has, cells_where, extent, is_size, IsFull}

-- the cells of a lattice: it has a lattice's size, and each cell has a truth value
pub record IsLattice (cells : Cells) : Type 0 where
  pub sized : is_size (extent cells) ≡ true
  pub full : IsFull cells

-- the tile has the lattice's cells from the place (x0, y0) on
pub record IsTileFrom (t : Tile) (cells : Cells) (x0 y0 : ℕ) : Type 0 where
  pub cell : (x y : ℕ) → x < 64 → y < 64 → tile.has t x y ≡ has cells (x0 + x) (y0 + y)

-- the border has the torus's cells round the 64 by 64 cells from the place (x0, y0) on
pub record IsRingRound (b : Border) (cells : Cells) (x0 y0 : ℕ) : Type 0 where
  pub cell : (i j : ℕ) → IsOnRing i j
      → ring b i j ≡ has cells
      ((x0 + i + cells.width - 1) % cells.width)
      ((y0 + j + cells.height - 1) % cells.height)

-- where a row has so many tiles: the column and the row of tiles that a tile is in
pub record IsPosition (across : ℕ) (p : Position) : Type 0 where
  pub column : p.column ≡ p.tile % across
  pub row : p.row ≡ p.tile / across

-- no cell is in the set
pub record HasNone (cells : Cells) : Type 0 where
  pub cell : (x y : ℕ) → x < cells.width → y < cells.height → has cells x y ≡ false

-- none of the 64 by 64 cells from the place (x0, y0) on is in the set
pub record IsBare (cells : Cells) (x0 y0 : ℕ) : Type 0 where
  pub cell : (x y : ℕ) → x < 64 → y < 64 → has cells (x0 + x) (y0 + y) ≡ false

-- round a circle of n places, the one before place k, itself and the one after it, for d = 0, 1 and 2
abbrev pub place_by : ℕ → ℕ → ℕ → ℕ
place_by k d n = (k + d + n - 1) % n

-- the columns at which tile i, the one to its left and the one to its right begin on the torus, for d = 1, 0 and 2
abbrev pub column_by : Cells → ℕ → ℕ → ℕ
column_by cells i d = place_by (i % (cells.width / 64)) d (cells.width / 64) * 64

-- the rows at which tile i, the one above it and the one below it begin
abbrev pub row_by : Cells → ℕ → ℕ → ℕ
row_by cells i d = place_by (i / (cells.width / 64)) d (cells.height / 64) * 64

-- the eight tiles that stand round tile i on the torus
pub record AreTilesRound (r : Round) (cells : Cells) (i : ℕ) : Type 0 where
  pub above : IsTileFrom r.above.now cells (column_by cells i 1) (row_by cells i 0)
  pub below : IsTileFrom r.below.now cells (column_by cells i 1) (row_by cells i 2)
  pub left : IsTileFrom r.left.now cells (column_by cells i 0) (row_by cells i 1)
  pub right : IsTileFrom r.right.now cells (column_by cells i 2) (row_by cells i 1)
  pub above_left : IsTileFrom r.above_left.now cells (column_by cells i 0) (row_by cells i 0)
  pub above_right : IsTileFrom r.above_right.now cells (column_by cells i 2) (row_by cells i 0)
  pub below_left : IsTileFrom r.below_left.now cells (column_by cells i 0) (row_by cells i 2)
  pub below_right : IsTileFrom r.below_right.now cells (column_by cells i 2) (row_by cells i 2)

-- none of the 64 by 64 cells from the place (x0, y0) on, and none of the ring round them on the torus, is in the set
pub record IsBareRound (cells : Cells) (x0 y0 : ℕ) : Type 0 where
  pub cell : (i j : ℕ) → i ≤ 65 → j ≤ 65
      → has cells ((x0 + i + cells.width - 1) % cells.width)
      ((y0 + j + cells.height - 1) % cells.height) ≡ false

-- the number of the tile that a cell is in
abbrev pub tile_of : Cells → ℕ → ℕ → ℕ
tile_of cells x y = y / 64 * (cells.width / 64) + x / 64

-- the set with the cells of tile i replaced by those of another tile
abbrev pub with_tile : Cells → ℕ → Tile → Cells
with_tile cells i t =
    cells_where cells.width cells.height
    (λ x y. if tile_of cells x y == i then tile.has t (x % 64) (y % 64) else has cells x y)

-- the set with 64 cells of a row replaced, those from column 64 * column on
abbrev pub with_row_word : Cells → ℕ → ℕ → ℕ → Cells
with_row_word cells column row word =
    cells_where cells.width cells.height
    (λ x y. if (x / 64 == column) && (y == row) then bit word (x % 64) else has cells x y)

-- the set with the cells that pass a test put in, or taken out
abbrev pub painted_where : Cells → (ℕ → ℕ → Bool) → Bool → Cells
painted_where cells test held =
    cells_where cells.width cells.height (λ x y. if test x y then held else has cells x y)

-- the set whose tiles below i have the cells that pass the test, and whose others are as before
abbrev pub swept : Cells → (ℕ → ℕ → Bool) → ℕ → Cells
swept cells test i =
    cells_where cells.width cells.height
    (λ x y. if nat_lt (tile_of cells x y) i then test x y else has cells x y)
