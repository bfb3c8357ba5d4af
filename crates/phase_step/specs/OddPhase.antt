-- The phase of parity 1 in place. The blocks that begin in a tile's rows 1 to 61 lie in its row of tiles. Those that begin in its last
-- row end in the first row of the tiles below.
use Rattle.std.specs.Prelude.{◌≡◌, ◌⊎◌, ℕ, ◌+◌, ◌-◌, ◌*◌, ◌/◌, ◌%◌, ◌<◌, ◌≤◌, ◌==◌, Bool, true, false, Option, ⊤, if◌then◌else◌}
use Rattle.bit_tile.specs.Bit.{bit}
use Rattle.bit_tile.specs.Tile as tile
use Rattle.bit_tile.specs.declared.Tile.{Tile}
use Rattle.gas_terms.specs.Cells.{Cells, HasSidesOf, has, extent, is_size, tile_count, tile_rectangle}
use Rattle.gas_terms.specs.Gas.{streamed}
use Rattle.gas_plane.specs.Planes.{IsLattice, IsTileFrom}
use Rattle.block_rule.specs.Around.{turned_window}
use Rattle.block_rule.specs.InPlace.{ShowsBegun, TurnsInto, IsInnerSeen, IsRowTurned, IsCarried}
use Rattle.block_rule.specs.TileBlocks.{AreGivenBlocks, walled_by}
use Rattle.block_rule.specs.declared.blocks.Blocks.{Blocks}
use Rattle.block_rule.specs.declared.blocks_in_tile.SetBlocks.{SetBlocks}
use Rattle.block_rule.specs.declared.blocks.Beside.{Beside}
use Rattle.block_rule.specs.declared.in_place.Carry.{Carry}
use Rattle.phase_step.specs.Parts.{start_of, row_in, made_to, AreMadeTo}
use Rattle.phase_step.specs.declared.parts.Part.{Part}
use Rattle.phase_step.specs.declared.odd_phase.RowPlace.{RowPlace}
use Rattle.phase_step.specs.declared.odd_phase.InnerTurner.{InnerTurner}
use Rattle.phase_step.specs.declared.parts.turning.EvenTurner.{EvenTurner}
use Rattle.phase_step.specs.declared.steps.known.KnownSolid.{KnownSolid}
use Rattle.phase_step.specs.Solid.{all_of}
use Rattle.phase_step.specs.Turns.{IsTileAfter}
use Rattle.phase_step.specs.SolidBlocks.{is_walled_in}

-- These walls have the lattice's tile of a column, whose first tile is `there`.
abbrev pub IsColumnThere : KnownSolid → ℕ → ℕ → Type 0
IsColumnThere known there column = (column < 64) × (there + column < tile_count (all_of known.solids.now))

-- words that name the walled blocks of that tile name those with a cell of this window
abbrev pub ShowsWalls : KnownSolid → ℕ → ℕ → (ℕ → ℕ → Bool) → Type 0
ShowsWalls known there column solid = (given : Option SetBlocks) → AreGivenBlocks given (is_walled_in (all_of known.solids.now) (there + column)) → AreGivenBlocks given (walled_by solid)

-- what becomes of a tile at even parity
pub record TurnsEvenTile (turner : EvenTurner) (column : ℕ) (before : ⊤) (t right made : Tile) (after : ⊤) : Type 0 where
  pub cells : (lattice : Cells) (i : ℕ) → i ≡ turner.there + column → is_size (extent lattice) ≡ true → i < tile_count lattice → HasSidesOf (all_of turner.known.solids.now) lattice
      → (let r = tile_rectangle lattice i in IsTileFrom t lattice r.x r.y) → IsTileAfter 0 lattice (all_of turner.known.solids.now) i made

-- what becomes of a tile's rows 1 to 62 at odd parity, beside the tile to its right, and what is carried on
pub record TurnsInner (turner : InnerTurner) (column : ℕ) (before : Carry) (t right made : Tile) (after : Carry) : Type 0 where
  pub cells : (window solid after : ℕ → ℕ → Bool) → TurnsInto window solid after → IsInnerSeen window t right → ShowsWalls turner.known turner.there column solid → IsCarried before (after 0)
      → (x y : ℕ) → x < 64 → 1 ≤ y → y < 63 → tile.has made x y ≡ after x y
  pub leaving : (window solid : ℕ → ℕ → Bool) → IsInnerSeen window t right → ShowsWalls turner.known turner.there column solid → IsCarried after (turned_window 1 window solid 64)
  pub top : (x : ℕ) → x < 64 → tile.has made x 0 ≡ tile.has t x 0
  pub bottom : (x : ℕ) → x < 64 → tile.has made x 63 ≡ tile.has t x 63

-- What comes from the left was put into the first column of a row of tiles, in its rows of cells 1 to 62.
pub record IsFirstPut (row : ℕ) (carry : Carry) (old new : Cells) : Type 0 where
  pub sides : HasSidesOf new old
  pub column : (column : ℕ → Bool) → IsCarried carry column → (y : ℕ) → 1 ≤ y → y < 63 → has new 0 (row * 64 + y) ≡ column y
  pub others : (x y : ℕ) → x < old.width → y < old.height → (x ≡ 0 → y / 64 ≡ row → 1 ≤ y % 64 → y % 64 < 63 → ⊥) → has new x y ≡ has old x y

-- the row of blocks that begins in a tile's last row was put into the lattice
pub record IsSeamPut (row below column : ℕ) (words : Blocks) (old new : Cells) : Type 0 where
  pub sides : HasSidesOf new old
  pub bottom : (test : ℕ → ℕ → Bool) → IsRowTurned words test 31 → (x : ℕ) → x < 64 → has new (column * 64 + x) (row * 64 + 63) ≡ test x 63
  pub top : (test : ℕ → ℕ → Bool) → IsRowTurned words test 31 → (x : ℕ) → x < 64 → has new (column * 64 + x) (below * 64) ≡ test x 64
  pub others : (x y : ℕ) → x < old.width → y < old.height → (x / 64 ≡ column → (y ≡ row * 64 + 63) ⊎ (y ≡ below * 64) → ⊥) → has new x y ≡ has old x y

-- Where such a row of blocks is: its tile's row and column of tiles, and the row of tiles below.
pub record SeamPlace : Type 0 where
  pub row : ℕ
  pub below : ℕ
  pub column : ℕ

abbrev pub seam_place : ℕ → ℕ → ℕ → SeamPlace
seam_place row below column = record { row = row; below = below; column = column }

-- what stands to the right of it
pub record IsSeamEdge (seam : SeamPlace) (first first_below : Tile) (cells : Cells) (upper lower : Bool) : Type 0 where
  pub next : seam.column + 1 < cells.width / 64 → (has cells ((seam.column + 1) * 64) (seam.row * 64 + 63) ≡ upper) × (has cells ((seam.column + 1) * 64) (seam.below * 64) ≡ lower)
  pub last : seam.column + 1 ≡ cells.width / 64 → (tile.has first 0 63 ≡ upper) × (tile.has first_below 0 0 ≡ lower)

-- the words show that row of blocks
abbrev pub ShowsSeam : SeamPlace → Cells → Bool → Bool → Blocks → Beside → Type 0
ShowsSeam seam cells upper lower own right =
    (window : ℕ → ℕ → Bool) → ((x : ℕ) → x < 64 → window (x + 1) 64 ≡ has cells (seam.column * 64 + x) (seam.row * 64 + 63)) → ((x : ℕ) → x < 64 → window (x + 1) 65 ≡ has cells (seam.column * 64 + x) (seam.below * 64)) → window 65 64 ≡ upper → window 65 65 ≡ lower → ShowsBegun window 31 own right

-- The row of tiles stands there in a lattice with these walls.
pub record IsRowThere (place : RowPlace) (solid cells lattice : Cells) : Type 0 where
  pub sized : is_size (extent lattice) ≡ true
  pub of_solid : HasSidesOf solid lattice
  pub wide : cells.width ≡ lattice.width
  pub low : place.there < lattice.height / 64

-- the lattice's row of tiles below it, round the torus
abbrev pub below_there : RowPlace → Cells → ℕ
below_there place lattice = (place.there + 1) % (lattice.height / 64)

-- It is the lattice's, in the columns up to `to`.
abbrev pub HasRow : RowPlace → ℕ → Cells → Cells → Type 0
HasRow place to cells lattice = (x y : ℕ) → x < to → y < 64 → has cells x (place.row * 64 + y) ≡ has lattice x (place.there * 64 + y)

-- So many tiles of the row have turned at even parity: they are the next lattice's, and all other cells are as before.
pub record AreEvensTurned (place : RowPlace) (column : ℕ) (next old now : Cells) : Type 0 where
  pub sides : HasSidesOf now old
  pub made : HasRow place (column * 64) now next
  pub rest : (x y : ℕ) → x < old.width → y < old.height → (x < column * 64 → y / 64 ≡ place.row → ⊥) → has now x y ≡ has old x y

-- and the whole row
pub record IsEvenRowTurned (place : RowPlace) (next old now : Cells) : Type 0 where
  pub made : HasRow place next.width now next
  pub rest : (x y : ℕ) → x < old.width → y < old.height → (y / 64 ≡ place.row → ⊥) → has now x y ≡ has old x y

-- Its rows of cells 1 to 62 are the lattice's, in the columns up to `to`.
abbrev pub HasInner : RowPlace → ℕ → Cells → Cells → Type 0
HasInner place to cells lattice = (x y : ℕ) → x < to → 1 ≤ y → y < 63 → has cells x (place.row * 64 + y) ≡ has lattice x (place.there * 64 + y)

-- Its last row of cells is the lattice's, and so is the first one of the row of tiles below.
pub record HasSeam (place : RowPlace) (to : ℕ) (cells lattice : Cells) : Type 0 where
  pub bottom : (x : ℕ) → x < to → has cells x (place.row * 64 + 63) ≡ has lattice x (place.there * 64 + 63)
  pub top : (x : ℕ) → x < to → has cells x (place.below * 64) ≡ has lattice x (below_there place lattice * 64)

-- which rows of cells these are
abbrev pub IsInnerOf : RowPlace → ℕ → Type 0
IsInnerOf place y = (y / 64 ≡ place.row) × ((1 ≤ y % 64) × (y % 64 < 63))

abbrev pub IsSeamOf : RowPlace → ℕ → Type 0
IsSeamOf place y = (y ≡ place.row * 64 + 63) ⊎ (y ≡ place.below * 64)

-- the column of cells after so many tiles, round the torus
abbrev pub after_tiles : Cells → ℕ → ℕ
after_tiles lattice column = if column == lattice.width / 64 then 0 else column * 64

-- So many tiles of the row have turned within it: those cells are the next lattice's, all others are as before, and what is carried on
-- is the next column. The first column waits for what the last tile carries on, and has no cells until then.
pub record AreInnersTurned (place : RowPlace) (column : ℕ) (next old now : Cells) (carry : Carry) : Type 0 where
  pub sides : HasSidesOf now old
  pub made : (x y : ℕ) → 1 ≤ x → x < column * 64 → 1 ≤ y → y < 63 → has now x (place.row * 64 + y) ≡ has next x (place.there * 64 + y)
  pub rest : (x y : ℕ) → x < old.width → y < old.height → (x < column * 64 → IsInnerOf place y → ⊥) → has now x y ≡ has old x y
  pub carried : IsCarried carry (λ y. if column == 0 then false else has next (after_tiles next column) (place.there * 64 + y))

-- the same across the seam
pub record AreSeamsTurned (place : RowPlace) (column : ℕ) (next old now : Cells) (coming : Beside) : Type 0 where
  pub sides : HasSidesOf now old
  pub made : HasSeam place (column * 64) now next
  pub rest : (x y : ℕ) → x < old.width → y < old.height → (x < column * 64 → IsSeamOf place y → ⊥) → has now x y ≡ has old x y
  pub upper : bit coming.upper 31 ≡ has next (after_tiles next column) (place.there * 64 + 63)
  pub lower : bit coming.lower 31 ≡ has next (after_tiles next column) (below_there place next * 64)

-- and of the whole row
pub record IsInnerRowTurned (place : RowPlace) (next old now : Cells) : Type 0 where
  pub made : HasInner place next.width now next
  pub rest : (x y : ℕ) → x < old.width → y < old.height → (IsInnerOf place y → ⊥) → has now x y ≡ has old x y

pub record IsSeamRowTurned (place : RowPlace) (next old now : Cells) : Type 0 where
  pub made : HasSeam place next.width now next
  pub rest : (x y : ℕ) → x < old.width → y < old.height → (IsSeamOf place y → ⊥) → has now x y ≡ has old x y

-- the row of tiles in which the blocks of a row of cells begin
abbrev pub begins_in : Cells → ℕ → ℕ
begins_in cells y = (y + cells.height - 1) % cells.height / 64

-- a part's rows of tiles before this one have turned at parity 0
abbrev pub AreRowsMadeTo : ℕ → Part → Cells → Cells → Cells → Type 0
AreRowsMadeTo rows part next old now = AreMadeTo (made_to (λ x y. y / 64) rows 64 part) next old now

-- the blocks that begin in them have turned at parity 1
abbrev pub AreTurnedTo : ℕ → Part → Cells → Cells → Cells → Type 0
AreTurnedTo rows part next old now = AreMadeTo (made_to (λ x y. begins_in old y) rows 63 part) next old now

-- Two phases of a whole lattice in one sweep: the blocks that begin in the rows of tiles before this one have turned at both parities, all
-- others up to it at parity 0 alone, and those below not at all.
pub record AreTurnedTwice (rows : ℕ) (mid next old now : Cells) : Type 0 where
  pub sides : HasSidesOf now old
  pub twice : (x y : ℕ) → x < old.width → y < old.height → begins_in old y < rows → has now x y ≡ has next x y
  pub once : (x y : ℕ) → x < old.width → y < old.height → rows ≤ begins_in old y → y / 64 ≤ rows → has now x y ≡ has mid x y
  pub rest : (x y : ℕ) → x < old.width → y < old.height → rows < y / 64 → has now x y ≡ has old x y

-- the row of tiles below this one has turned at parity 0 too
pub record IsNextTurned (row : ℕ) (mid next old now : Cells) : Type 0 where
  pub sides : HasSidesOf now old
  pub twice : (x y : ℕ) → x < old.width → y < old.height → begins_in old y < row → has now x y ≡ has next x y
  pub once : (x y : ℕ) → x < old.width → y < old.height → row ≤ begins_in old y → y / 64 ≤ row + 1 → has now x y ≡ has mid x y
  pub rest : (x y : ℕ) → x < old.width → y < old.height → row + 1 < y / 64 → has now x y ≡ has old x y

-- what leads from one to the other, among these walls
abbrev pub once_turned : Cells → Cells → Cells
once_turned solid old = streamed 0 old solid

abbrev pub twice_turned : Cells → Cells → Cells
twice_turned solid old = streamed 1 (once_turned solid old) solid

-- where a row of tiles of a whole lattice stands
abbrev pub place_in_whole : Cells → ℕ → RowPlace
place_in_whole cells row = record { row = row; below = (row + 1) % (cells.height / 64); there = row }

-- The row of tiles is the other lattice's.
abbrev pub IsRowOf : ℕ → Cells → Cells → Type 0
IsRowOf row cells lattice = HasRow (place_in_whole lattice row) lattice.width cells lattice

abbrev pub TurnsFirst : ℕ → Cells → Cells → Cells → Type 0
TurnsFirst row solid now new = (old : Cells) → IsLattice old → HasSidesOf now old → IsRowOf row now old → IsEvenRowTurned (place_in_whole old row) (once_turned solid old) now new

abbrev pub TurnsSecond : ℕ → Cells → Cells → Cells → Type 0
TurnsSecond row solid now new = (old : Cells) → IsLattice old → IsNextTurned row (once_turned solid old) (twice_turned solid old) old now → AreTurnedTwice (row + 1) (once_turned solid old) (twice_turned solid old) old new

abbrev pub TurnsTwice : ℕ → Cells → Cells → Cells → Type 0
TurnsTwice row solid now new = (old : Cells) → IsLattice old → AreTurnedTwice row (once_turned solid old) (twice_turned solid old) old now → AreTurnedTwice (row + 1) (once_turned solid old) (twice_turned solid old) old new

-- where a row of tiles of a part stands, that has so many of them
abbrev pub place_at : Part → ℕ → ℕ → RowPlace
place_at part down row = record { row = row; below = (row + 1) % down; there = (start_of part + row) % part.down }

-- The blocks of parity 1 that begin in a row of tiles have turned.
pub record IsBegunTurned (place : RowPlace) (next old now : Cells) : Type 0 where
  pub inner : HasInner place next.width now next
  pub seam : HasSeam place next.width now next
  pub rest : (x y : ℕ) → x < old.width → y < old.height → (IsInnerOf place y → ⊥) → (IsSeamOf place y → ⊥) → has now x y ≡ has old x y

-- There is such a row of tiles, and one below it, and the walls have it.
pub record IsRowIn (place : RowPlace) (solid cells : Cells) : Type 0 where
  pub row : place.row < cells.height / 64
  pub below : place.below < cells.height / 64
  pub there : place.there < 64
  pub room : place.there * (cells.width / 64) + cells.width / 64 ≤ tile_count solid

-- a row of tiles turns at parity 1, and at parity 0, of whatever lattice it is
abbrev pub TurnsBegun : RowPlace → Cells → Cells → Cells → Type 0
TurnsBegun place solid old new =
    (lattice : Cells) → IsRowThere place solid old lattice → HasInner place lattice.width old lattice → HasSeam place lattice.width old lattice → IsBegunTurned place (streamed 1 lattice solid) old new

abbrev pub TurnsEven : RowPlace → Cells → Cells → Cells → Type 0
TurnsEven place solid old new =
    (lattice : Cells) → IsRowThere place solid old lattice → HasRow place lattice.width old lattice → IsEvenRowTurned place (streamed 0 lattice solid) old new

-- Two phases of a strip in one sweep: its own rows of tiles before this one have turned at parity 1 and then at parity 0. The first row
-- of cells of this one has turned at parity 1, and those below it not at all.
pub record AreTurnedOn (row : ℕ) (part : Part) (mid next old now : Cells) : Type 0 where
  pub sides : HasSidesOf now old
  pub twice : (x y : ℕ) → x < old.width → part.margin * 64 ≤ y → y < row * 64 → has now x y ≡ has next x (row_in part y)
  pub once : (x : ℕ) → x < old.width → has now x (row * 64) ≡ has mid x (row_in part (row * 64))
  pub rest : (x y : ℕ) → x < old.width → y < old.height → row * 64 < y → has now x y ≡ has old x y
