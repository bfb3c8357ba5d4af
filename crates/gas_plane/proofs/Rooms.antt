-- Tiles in their rooms.
use Rattle.std.proofs.Common.{◌≡◌, ℕ, zero, suc, ◌+◌, ◌-◌, ◌*◌, ◌/◌, ◌<◌, ◌∙◌, true, false, true≢false, List, ◌∷◌, length, get_or, set, take, drop, replicate, arith, refl, sym, ap, subst}
use Rattle.std.proofs.Math.ListN.{get_or-map}
use Rattle.std.proofs.lemmas.List.{map-set, length-map, get_or-take, get_or-drop, get_or_default}
use Rattle.bit_tile.specs.declared.Tile.{Tile}
use Rattle.gas_terms.specs.Cells.{Cells, Extent, is_size, tile_count}
use Rattle.gas_plane.specs.Counts.{AreOfAll}
use Rattle.gas_plane.specs.Planes.{IsTileFrom, with_tile}
use Rattle.gas_plane.specs.Tiles.{tiled, tiles_of, AreTilesInRow, Cover}
use Rattle.std.proofs.lemmas.List.{length-replicate}
use Rattle.gas_plane.specs.declared.aligned_tile.AlignedTile.{AlignedTile}
use Rattle.gas_plane.proofs.Tilings.{set_covers, tiled_set, tile_place, tile_read}

-- what is read of a room
pub room_read : (rooms : List AlignedTile) (i : ℕ) (r : AlignedTile) → r ≡ get_or rooms i r → r.tile ≡ get_or (tiles_of rooms) i r.tile
room_read rooms i r e = ap (λ (r : AlignedTile). r.tile) e ∙ sym (get_or-map (λ (r : AlignedTile). r.tile) rooms i r)

pub place_in : (rooms : List AlignedTile) (size : Extent) (cells : Cells) (row column w : ℕ) → Cover (tiles_of rooms) size → tiled (tiles_of rooms) size ≡ cells → row < cells.height / 64 → column < cells.width / 64 → w ≡ size.width → row * (w / 64) + column < length rooms
place_in rooms size cells row column w cover e below across same = grind (arith, subst, length-map, tile_place)

-- the rooms from the first one of a row of tiles on
pub row_read : (rooms : List AlignedTile) (size : Extent) (cells : Cells) (row w : ℕ) → Cover (tiles_of rooms) size → tiled (tiles_of rooms) size ≡ cells → row < cells.height / 64 → w ≡ size.width
    → AreTilesInRow (take (length rooms - row * (w / 64)) (drop (row * (w / 64)) rooms)) cells row
row_read rooms size cells row w cover e below same =
    let s = row * (w / 64) in
    record {
      tile = λ column d across.
          let r : AlignedTile = get_or rooms (s + column) d in
          let place : s + column < length rooms = place_in rooms size cells row column w cover e below across same in
          let read : get_or (take (length rooms - s) (drop s rooms)) column d ≡ r = get_or-take (length rooms - s) (drop s rooms) column d (omega (arith, place)) ∙ get_or-drop s rooms column d in
          subst (λ (r : AlignedTile). IsTileFrom r.tile cells (column * 64) (row * 64)) (sym read)
          (tile_read (tiles_of rooms) size cells column row w r.tile cover e across below same (room_read rooms (s + column) r (get_or_default rooms (s + column) d r place)));
    }

-- what is put in one
pub room_set : (rooms : List AlignedTile) (i : ℕ) (r : AlignedTile) → tiles_of (set rooms i r) ≡ set (tiles_of rooms) i r.tile
room_set rooms i r = map-set (λ (r : AlignedTile). r.tile) rooms i r

-- rooms that have one tile
pub tiles_of_copies : (n : ℕ) (r : AlignedTile) → tiles_of (replicate n r) ≡ replicate n r.tile
tiles_of_copies zero r = refl
tiles_of_copies (suc n) r = ap (λ tiles. r.tile ∷ tiles) (tiles_of_copies n r)

pub tiled_room : (rooms : List AlignedTile) (size : Extent) (cells : Cells) (i : ℕ) (r : AlignedTile) → i < tile_count cells → Cover (tiles_of rooms) size → tiled (tiles_of rooms) size ≡ cells → tiled (tiles_of (set rooms i r)) size ≡ with_tile cells i r.tile
tiled_room rooms size cells i r within cover e = ap (λ tiles. tiled tiles size) (room_set rooms i r) ∙ tiled_set (tiles_of rooms) size cells i r.tile within cover e

pub covered_room : (rooms : List AlignedTile) (i : ℕ) (r : AlignedTile) (size : Extent) → Cover (tiles_of rooms) size → Cover (tiles_of (set rooms i r)) size
covered_room rooms i r size cover = subst (λ tiles. Cover tiles size) (sym (room_set rooms i r)) (set_covers (tiles_of rooms) size i r.tile cover)

-- rooms of one tile
pub copies_cover : (tiles : List Tile) (n : ℕ) (t : Tile) (size : Extent) → tiles ≡ replicate n t → n ≡ size.width / 64 * (size.height / 64) → is_size size ≡ true → Cover tiles size
copies_cover tiles n t size e enough sized = grind (arith, length-replicate, subst)

-- counts that are not kept
pub not_kept : {counts : List ℕ} {cells : Cells} → AreOfAll false counts cells
not_kept known = absurd (true≢false (sym known))
