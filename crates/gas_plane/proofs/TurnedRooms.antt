-- The tiles of a row that turn in their rooms.
use Rattle.std.proofs.Common.{◌≡◌, ℕ, ◌+◌, ◌<◌, ◌∙◌, ◌++◌, ◌*◌, ◌/◌, List, length, get_or, set, arith, refl, sym, ap, subst}
use Rattle.std.proofs.lemmas.List.{get_or-append-add, get_or_append_left, get_or_default, set-append_left}
use Rattle.std.proofs.lemmas.Nat.{mul-add-lt}
use Rattle.bit_tile.specs.declared.Tile.{Tile}
use Rattle.gas_terms.specs.Cells.{Cells, Extent, HasSidesOf}
use Rattle.gas_plane.specs.Turning.{IsColumnTurned, AreTilesTurned, IsTileRowTurned, IsRoomTurned}
use Rattle.gas_plane.specs.Turning.AreTilesTurned.{no_tile, one_more}
use Rattle.gas_plane.specs.Planes.{IsTileFrom}
use Rattle.gas_plane.specs.Tiles.{tiled, tiles_of, Cover}
use Rattle.gas_plane.proofs.Rooms.{room_read, place_in, tiled_room, covered_room}
use Rattle.gas_plane.proofs.Tilings.{tile_read}
use Rattle.gas_plane.specs.declared.aligned_tile.AlignedTile.{AlignedTile}

front_read : (old front back : List AlignedTile) (i : ℕ) (d e : AlignedTile) → old ≡ front ++ back → i < length front → get_or front i d ≡ get_or old i e
front_read old front back i d e is h = get_or_default front i d e h ∙ (sym (get_or_append_left front back e i h) ∙ ap (λ l. get_or l i e) (sym is))

back_read : (old front back : List AlignedTile) (i : ℕ) (d e : AlignedTile) → old ≡ front ++ back → length front ≡ i → 0 < length back → get_or back 0 d ≡ get_or old i e
back_read old front back i d e is len h =
    get_or_default back 0 d e h
    ∙ (sym (get_or-append-add front back 0 e)
    ∙ (ap (λ n. get_or (front ++ back) n e) (let z : length front + 0 ≡ i = omega (arith, len) in z) ∙ ap (λ l. get_or l i e) (sym is)))

pub room_turned : {A : Type 0} (turns : Tile → Tile → Tile → A → Type 0) (after : A) (old front back : List AlignedTile) (i : ℕ) (d e room : AlignedTile) → old ≡ front ++ back → length front ≡ i + 1 → 0 < length back → turns (get_or front i d).tile (get_or back 0 e).tile room.tile after → IsRoomTurned turns after old i (set front i room ++ back)
room_turned turns after old front back i d e room is len some related =
    let h : i < length front = omega (arith, len) in
    record {
      room = room;
      related = λ f g.
          subst (λ (r : AlignedTile). turns (get_or old i f).tile r.tile room.tile after) (back_read old front back (i + 1) e g is len some)
          (subst (λ (r : AlignedTile). turns r.tile (get_or back 0 e).tile room.tile after) (front_read old front back i d f is h) related);
      replaced = sym (set-append_left front back i room h) ∙ ap (λ l. set l i room) (sym is);
    }

pub still_covered : {A : Type 0} (turns : Tile → Tile → Tile → A → Type 0) (after : A) (old now : List AlignedTile) (i : ℕ) (size : Extent) → Cover (tiles_of old) size → IsRoomTurned turns after old i now → Cover (tiles_of now) size
still_covered turns after old now i size cover is = subst (λ l. Cover (tiles_of l) size) (sym is.replaced) (covered_room old i is.room size cover)

-- the rooms of a plane, in a column and a row of tiles
module _ (rooms : List AlignedTile) (size : Extent) (column row : ℕ) (cover : Cover (tiles_of rooms) size) (less : column < size.width / 64) (low : row < size.height / 64) where
  abbrev number : ℕ
  number = row * (size.width / 64) + column

  pub room_from : (r : AlignedTile) → r ≡ get_or rooms number r → IsTileFrom r.tile (tiled (tiles_of rooms) size) (column * 64) (row * 64)
  room_from r read = tile_read (tiles_of rooms) size (tiled (tiles_of rooms) size) column row size.width r.tile cover refl less low refl (room_read rooms number r read)

  pub read_from : (d : AlignedTile) → IsTileFrom (get_or rooms number d).tile (tiled (tiles_of rooms) size) (column * 64) (row * 64)
  read_from d = let r : AlignedTile = get_or rooms number d in room_from r (get_or_default rooms number d r (place_in rooms size (tiled (tiles_of rooms) size) row column size.width cover refl low less refl))

-- a tile that turns beside the one in the next room
pub next_turned : {A : Type 0} (turns : Tile → Tile → Tile → A → Type 0) (after : A) (first : Tile) (rooms now : List AlignedTile) (size : Extent) (column row : ℕ) → Cover (tiles_of rooms) size → row < size.height / 64 → column + 1 < size.width / 64
    → IsRoomTurned turns after rooms (row * (size.width / 64) + column) now → IsColumnTurned turns first row column after (tiled (tiles_of rooms) size) (tiled (tiles_of now) size)
next_turned turns after first rooms now size column row cover low inside is =
    let less : column < size.width / 64 = omega (arith, inside) in
    let i : ℕ = row * (size.width / 64) + column in
    let beside : row * (size.width / 64) + (column + 1) ≡ i + 1 = omega arith in
    record {
      before = (get_or rooms i is.room).tile;
      right = (get_or rooms (i + 1) is.room).tile;
      made = is.room.tile;
      of_before = read_from rooms size column row cover less low is.room;
      of_next = λ _. subst (λ n. IsTileFrom (get_or rooms n is.room).tile (tiled (tiles_of rooms) size) ((column + 1) * 64) (row * 64)) beside (read_from rooms size (column + 1) row cover inside low is.room);
      of_last = λ e. absurd (omega (arith, e, inside));
      related = is.related is.room is.room;
      replaced = ap (λ l. tiled (tiles_of l) size) is.replaced ∙ tiled_room rooms size (tiled (tiles_of rooms) size) i is.room (mul-add-lt row (size.width / 64) column (size.height / 64) low less) cover refl;
    }

-- the last one of a row turns too
module _ {A : Type 0} (turns : ℕ → A → Tile → Tile → Tile → A → Type 0) (begun before after : A) (rooms now : List AlignedTile) (size : Extent) (row column w : ℕ) (d e room : AlignedTile) (same : w ≡ size.width) (covered : Cover (tiles_of rooms) size) (cover : Cover (tiles_of now) size) (low : row < size.height / 64) (last : column + 1 ≡ size.width / 64) where
  abbrev first : Tile
  first = (get_or rooms (row * (w / 64)) d).tile

  less : column < size.width / 64
  less = omega (arith, last)

  of_first : IsTileFrom first (tiled (tiles_of rooms) size) 0 (row * 64)
  of_first = subst (λ i. IsTileFrom (get_or rooms i d).tile (tiled (tiles_of rooms) size) 0 (row * 64)) (let z : row * (size.width / 64) + 0 ≡ row * (size.width / 64) = omega arith in z ∙ ap (λ w. row * (w / 64)) (sym same)) (read_from rooms size 0 row covered (omega (arith, less)) low d)

  last_turned : turns column before (get_or now (row * (w / 64) + column) e).tile first room.tile after → IsColumnTurned (turns column before) first row column after (tiled (tiles_of now) size) (tiled (tiles_of (set now (row * (w / 64) + column) room)) size)
  last_turned related =
      let i : ℕ = row * (size.width / 64) + column in
      let at : row * (w / 64) + column ≡ i = ap (λ w. row * (w / 64) + column) same in
      record {
        before = (get_or now i e).tile;
        right = first;
        made = room.tile;
        of_before = read_from now size column row cover less low e;
        of_next = λ h. absurd (omega (arith, h, last));
        of_last = λ _. refl;
        related = subst (λ n. turns column before (get_or now n e).tile first room.tile after) at related;
        replaced = ap (λ n. tiled (tiles_of (set now n room)) size) at ∙ tiled_room now size (tiled (tiles_of now) size) i room (mul-add-lt row (size.width / 64) column (size.height / 64) low less) cover refl;
      }

  pub row_turned : (k : ℕ) → k ≡ column → AreTilesTurned turns first row begun (tiled (tiles_of rooms) size) k before (tiled (tiles_of now) size) → turns column before (get_or now (row * (w / 64) + column) e).tile first room.tile after
      → IsTileRowTurned turns row begun (tiled (tiles_of rooms) size) after (tiled (tiles_of (set now (row * (w / 64) + column) room)) size)
  row_turned k all so_far related =
      let so_far : AreTilesTurned turns first row begun (tiled (tiles_of rooms) size) column before (tiled (tiles_of now) size) = subst (λ k. AreTilesTurned turns first row begun (tiled (tiles_of rooms) size) k before (tiled (tiles_of now) size)) all so_far in
      record {
        first = first;
        of_first = of_first;
        tiles = subst (λ k. AreTilesTurned turns first row begun (tiled (tiles_of rooms) size) k after (tiled (tiles_of (set now (row * (w / 64) + column) room)) size)) last (one_more so_far (last_turned related));
      }

-- tiles that turn leave a lattice its sides
pub sides_kept : {A : Type 0} (turns : ℕ → A → Tile → Tile → Tile → A → Type 0) (beside : Tile) (row : ℕ) (begun : A) (old : Cells) (column : ℕ) (after : A) (now : Cells) → AreTilesTurned turns beside row begun old column after now → HasSidesOf now old
sides_kept turns beside row begun old _ _ _ no_tile = record { wide = refl; high = refl }
sides_kept turns beside row begun old _ _ _ (one_more {column} {before} {mid} so_far turned) =
    let was = sides_kept turns beside row begun old column before mid so_far in
    record { wide = ap (λ (c : Cells). c.width) turned.replaced ∙ was.wide; high = ap (λ (c : Cells). c.height) turned.replaced ∙ was.high }
