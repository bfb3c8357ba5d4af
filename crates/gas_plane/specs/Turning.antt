-- The tiles of a row that turn one after another.
use Rattle.std.specs.Prelude.{◌≡◌, ℕ, ◌+◌, ◌*◌, ◌/◌, ◌<◌, List, slice_index_or, slice_set}
use Rattle.bit_tile.specs.declared.Tile.{Tile}
use Rattle.gas_plane.specs.declared.aligned_tile.AlignedTile.{AlignedTile}
use Rattle.gas_terms.specs.Cells.{Cells}
use Rattle.gas_plane.specs.Planes.{IsTileFrom, with_tile}

-- The tile in a column of a row was replaced by one that stands in this relation to it, to the one to its right, and to what is
-- carried on. To the right of the last one is the first one, as it was before the row turned.
pub record IsColumnTurned {A : Type 0} (turns : Tile → Tile → Tile → A → Type 0) (first : Tile) (row column : ℕ) (after : A) (old now : Cells) : Type 0 where
  pub before : Tile
  pub right : Tile
  pub made : Tile
  pub of_before : IsTileFrom before old (column * 64) (row * 64)
  pub of_next : column + 1 < old.width / 64 → IsTileFrom right old ((column + 1) * 64) (row * 64)
  pub of_last : column + 1 ≡ old.width / 64 → right ≡ first
  pub related : turns before right made after
  pub replaced : now ≡ with_tile old (row * (old.width / 64) + column) made

-- the tiles in so many columns, one after another
pub data AreTilesTurned {A : Type 0} (turns : ℕ → A → Tile → Tile → Tile → A → Type 0) (first : Tile) (row : ℕ) (begun : A) (old : Cells) : ℕ → A → Cells → Type 0 where
  no_tile : AreTilesTurned turns first row begun old 0 begun old
  one_more : {column : ℕ} {before after : A} {mid now : Cells} → AreTilesTurned turns first row begun old column before mid
      → IsColumnTurned (turns column before) first row column after mid now
      → AreTilesTurned turns first row begun old (column + 1) after now

-- and those of the whole row
pub record IsTileRowTurned {A : Type 0} (turns : ℕ → A → Tile → Tile → Tile → A → Type 0) (row : ℕ) (begun : A) (old : Cells) (after : A) (now : Cells) : Type 0 where
  pub first : Tile
  pub of_first : IsTileFrom first old 0 (row * 64)
  pub tiles : AreTilesTurned turns first row begun old (old.width / 64) after now

-- the same of one room
pub record IsRoomTurned {A : Type 0} (turns : Tile → Tile → Tile → A → Type 0) (after : A) (old : List AlignedTile) (i : ℕ) (now : List AlignedTile) : Type 0 where
  pub room : AlignedTile
  pub related : (d e : AlignedTile) → turns (slice_index_or old i d).tile (slice_index_or old (i + 1) e).tile room.tile after
  pub replaced : now ≡ slice_set old i room
