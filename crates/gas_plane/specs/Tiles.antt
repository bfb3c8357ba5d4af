use Rattle.std.specs.Prelude.{◌≡◌, ℕ, ◌+◌, ◌-◌, ◌*◌, ◌/◌, ◌%◌, ◌<◌, ◌≤◌, Bool, true, List, length, map, slice_index_or}
use Rattle.bit_tile.specs.Tile as tile
pub use Rattle.bit_tile.specs.Tile.{no_cells}
use Rattle.bit_tile.specs.declared.Tile.{Tile}
use Rattle.gas_plane.specs.declared.around.TileRows.{TileRows}
use Rattle.gas_plane.specs.declared.aligned_tile.AlignedTile.{AlignedTile}
use Rattle.gas_terms.specs.Cells.{Cells, Extent, cells_where, is_size, tile_count}
use Rattle.gas_plane.specs.Planes.{IsLattice, IsTileFrom}

-- the tiles in these rooms
abbrev pub tiles_of : List AlignedTile → List Tile
tiles_of rooms = map (λ (r : AlignedTile). r.tile) rooms

abbrev pub tile_at : List Tile → ℕ → Tile
tile_at tiles i = slice_index_or tiles i no_cells

-- Tiles stand row by row, `across` of them in each row: whether the tiles have the cell (x, y)
unfoldable pub tiles_have : List Tile → ℕ → ℕ → ℕ → Bool
tiles_have tiles across x y = tile.has (tile_at tiles (y / 64 * across + x / 64)) (x % 64) (y % 64)

-- the lattice of this size that they make up
abbrev pub tiled : List Tile → Extent → Cells
tiled tiles size = cells_where size.width size.height (tiles_have tiles (size.width / 64))

-- the rooms begin with those of this row of tiles of a lattice
pub record AreTilesInRow (rooms : List AlignedTile) (cells : Cells) (row : ℕ) : Type 0 where
  pub tile : (column : ℕ) (d : AlignedTile) → column < cells.width / 64
      → IsTileFrom (slice_index_or rooms column d).tile cells (column * 64) (row * 64)

-- the rows are a row of tiles of a lattice and those above and below it, round the torus
pub record AreRowsRound (rows : TileRows) (cells : Cells) (row : ℕ) : Type 0 where
  pub across : rows.across ≡ cells.width / 64
  pub above : AreTilesInRow rows.above.now cells
      ((row + cells.height / 64 - 1) % (cells.height / 64))
  pub here : AreTilesInRow rows.here.now cells row
  pub below : AreTilesInRow rows.below.now cells ((row + 1) % (cells.height / 64))

-- and the place in this column of them is that of tile i
pub record IsColumnOf (r : TileRows) (column : ℕ) (cells : Cells) (i : ℕ) : Type 0 where
  pub lattice : IsLattice cells
  pub within : i < tile_count cells
  pub rows : AreRowsRound r cells (i / (cells.width / 64))
  pub place : column ≡ i % (cells.width / 64)

-- each of them has so many tiles
pub record AreFullRows (rows : TileRows) : Type 0 where
  pub above : rows.across ≤ length rows.above.now
  pub here : rows.across ≤ length rows.here.now
  pub below : rows.across ≤ length rows.below.now

-- the tiles cover a lattice of this size
pub record Cover (tiles : List Tile) (size : Extent) : Type 0 where
  pub sized : is_size size ≡ true
  pub enough : length tiles ≡ size.width / 64 * (size.height / 64)
