-- What a tiling's cells are.
use Rattle.std.proofs.Common.{◌≡◌, ℕ, ◌+◌, ◌*◌, ◌/◌, ◌%◌, ◌<◌, ◌≤◌, ◌==◌, Bool, true, false, if◌then◌else◌, List, length, get_or, set, replicate, sym, ◌∙◌, ap, subst, arith, inl, inr, get_or-set_same, get_or-set_other, length-set, ◌≢◌}
use Rattle.std.proofs.lemmas.List.{get_or_read, get_or-replicate}
use Rattle.std.proofs.lemmas.Nat.{mul-add-lt, div-mul-add, mod-mul-add, div-add-mod', row-Below}
use Rattle.std.proofs.Math.Nat.{mod-lt}
use Rattle.std.proofs.lemmas.Bool.{cases_eq, eq-eqb, ne_eqb}
use Rattle.bit_tile.specs.Tile as tile
use Rattle.bit_tile.specs.declared.Tile.{Tile}
use Rattle.gas_terms.specs.Cells.{Cells, Extent, has, cells_where, is_size, tile_count}
use Rattle.gas_terms.proofs.Cells.{has-cells_where, full-cells_where, same_cells_where}
use Rattle.gas_plane.specs.Tiles.{no_cells, tile_at, tiled, tiles_have, Cover}
use Rattle.gas_plane.specs.Planes.{IsLattice, IsTileFrom, with_tile}
use Rattle.gas_plane.proofs.Places.{wide, high, tile_below, cell_below}

pub choose_true : (test a b v : Bool) → test ≡ true → v ≡ a → v ≡ (if test then a else b)
choose_true test a b v e h = rw e h

pub choose_false : (test a b v : Bool) → test ≡ false → v ≡ b → v ≡ (if test then a else b)
choose_false test a b v e h = rw e h

pub lattice_of : (tiles : List Tile) (size : Extent) (cells : Cells) → Cover tiles size → tiled tiles size ≡ cells → IsLattice cells
lattice_of tiles size cells cover e = grind (arith, full-cells_where, subst)

tile_has_cell : (tiles : List Tile) (across column row x y : ℕ) → x < 64 → y < 64 → tiles_have tiles across (column * 64 + x) (row * 64 + y) ≡ tile.has (tile_at tiles (row * across + column)) x y
unfolding tiles_have
tile_has_cell tiles across column row x y p q = rw (div-mul-add column 64 x p, div-mul-add row 64 y q, mod-mul-add column 64 x p, mod-mul-add row 64 y q)

pub tiled_from : (tiles : List Tile) (size : Extent) (column row : ℕ) → Cover tiles size → column < size.width / 64 → row < size.height / 64 → IsTileFrom (tile_at tiles (row * (size.width / 64) + column)) (tiled tiles size) (column * 64) (row * 64)
tiled_from tiles size column row cover p q = grind (arith, has-cells_where, cell_below, wide, high, tile_has_cell)

pub tile_place : (tiles : List Tile) (size : Extent) (column row : ℕ) → Cover tiles size → column < size.width / 64 → row < size.height / 64 → row * (size.width / 64) + column < length tiles
tile_place tiles size column row cover p q = omega (arith, cover.enough, mul-add-lt row (size.width / 64) column (size.height / 64) q p)

-- the tile that is read at a place
pub tile_read : (tiles : List Tile) (size : Extent) (cells : Cells) (column row w : ℕ) (t : Tile) → Cover tiles size → tiled tiles size ≡ cells → column < cells.width / 64 → row < cells.height / 64 → w ≡ size.width → t ≡ get_or tiles (row * (w / 64) + column) t → IsTileFrom t cells (column * 64) (row * 64)
tile_read tiles size cells column row w t cover e p q same read =
    let a : column < size.width / 64 = rw (ap (λ (c : Cells). c.width) e) p in
    let b : row < size.height / 64 = rw (ap (λ (c : Cells). c.height) e) q in
    let k : row * (size.width / 64) + column < length tiles = tile_place tiles size column row cover a b in
    let read : t ≡ get_or tiles (row * (size.width / 64) + column) t = rw same at read in
    subst (λ (cells : Cells). IsTileFrom t cells (column * 64) (row * 64)) e
    (subst (λ (t : Tile). IsTileFrom t (tiled tiles size) (column * 64) (row * 64)) (sym (get_or_read tiles (row * (size.width / 64) + column) t k read no_cells))
    (tiled_from tiles size column row cover a b))

-- tile i
tile_from : (tiles : List Tile) (size : Extent) (i : ℕ) (t : Tile) → Cover tiles size → i < size.width / 64 * (size.height / 64) → t ≡ get_or tiles i t → IsTileFrom t (tiled tiles size) (i % (size.width / 64) * 64) (i / (size.width / 64) * 64)
tile_from tiles size i t cover within read =
    let across = wide size cover.sized in
    let column : i % (size.width / 64) < size.width / 64 = mod-lt i across.some in
    let row : i / (size.width / 64) < size.height / 64 = (row-Below i (size.width / 64) (size.width / 64) (size.height / 64) within (let k : size.width / 64 ≤ size.width / 64 = omega arith in k)).1 in
    let is : t ≡ tile_at tiles i = get_or_read tiles i t (let k : i < length tiles = omega (arith, cover.enough) in k) read no_cells in
    let place : i ≡ i / (size.width / 64) * (size.width / 64) + i % (size.width / 64) = sym (div-add-mod' i (size.width / 64)) in
    subst (λ (t : Tile). IsTileFrom t (tiled tiles size) (i % (size.width / 64) * 64) (i / (size.width / 64) * 64)) (sym (is ∙ ap (tile_at tiles) place))
    (tiled_from tiles size (i % (size.width / 64)) (i / (size.width / 64)) cover column row)

pub tile_is : (tiles : List Tile) (size : Extent) (cells : Cells) (i : ℕ) (t : Tile) → Cover tiles size → tiled tiles size ≡ cells → i < tile_count cells → t ≡ get_or tiles i t → IsTileFrom t cells (i % (cells.width / 64) * 64) (i / (cells.width / 64) * 64)
tile_is tiles size cells i t cover e within read = grind (arith, subst, tile_from)

pub tile_there : (tiles : List Tile) (size : Extent) (cells : Cells) (i : ℕ) → Cover tiles size → tiled tiles size ≡ cells → i < tile_count cells → i < length tiles
tile_there tiles size cells i cover e within = grind (arith, subst)

-- the tiles of an empty set
pub tiled_empty : (tiles : List Tile) (size : Extent) (t : Tile) (n : ℕ) → tiles ≡ replicate n t → n ≡ size.width / 64 * (size.height / 64) → is_size size ≡ true → ((x y : ℕ) → x < 64 → y < 64 → tile.has t x y ≡ false) → tiled tiles size ≡ cells_where size.width size.height (λ _ _. false)
unfolding tiles_have
tiled_empty tiles size t n all enough sized none =
    same_cells_where size.width size.height (tiles_have tiles (size.width / 64)) (λ _ _. false)
    (λ x y p q.
    let a = tile_below size.width x (wide size sized) p in
    let b = tile_below size.height y (high size sized) q in
    let i : ℕ = y / 64 * (size.width / 64) + x / 64 in
    let k : i < n = omega (arith, enough, mul-add-lt (y / 64) (size.width / 64) (x / 64) (size.height / 64) b a) in
    let is : tile_at tiles i ≡ t = ap (λ (tiles : List Tile). tile_at tiles i) all ∙ get_or-replicate n i t no_cells k in
    ap (λ (t : Tile). tile.has t (x % 64) (y % 64)) is ∙ none (x % 64) (y % 64) (omega arith) (omega arith))

-- a tile that is put in a place
pub tiled_set : (tiles : List Tile) (size : Extent) (cells : Cells) (i : ℕ) (t : Tile) → i < tile_count cells → Cover tiles size → tiled tiles size ≡ cells → tiled (set tiles i t) size ≡ with_tile cells i t
unfolding tiles_have
tiled_set tiles size cells i t h cover e =
    let wide = ap (λ (c : Cells). c.width) e in
    let high = ap (λ (c : Cells). c.height) e in
    let k : i < length tiles = rw (cover.enough, wide, high) h in
    subst (λ (cells : Cells). tiled (set tiles i t) size ≡ with_tile cells i t) e
    (same_cells_where size.width size.height (tiles_have (set tiles i t) (size.width / 64)) (λ x y. if y / 64 * (size.width / 64) + x / 64 == i then tile.has t (x % 64) (y % 64) else has (tiled tiles size) x y)
    (λ x y p q.
    let other_tile : (y / 64 * (size.width / 64) + x / 64 ≢ i) → tiles_have (set tiles i t) (size.width / 64) x y ≡ has (tiled tiles size) x y =
    λ other. (ap (λ (t : Tile). tile.has t (x % 64) (y % 64)) (get_or-set_other tiles i (y / 64 * (size.width / 64) + x / 64) t no_cells other) ∙ sym (has-cells_where size.width size.height (tiles_have tiles (size.width / 64)) x y p q)) in
    let same_tile : (y / 64 * (size.width / 64) + x / 64 ≡ i) → tiles_have (set tiles i t) (size.width / 64) x y ≡ tile.has t (x % 64) (y % 64) =
    λ same. ap (λ (t : Tile). tile.has t (x % 64) (y % 64)) (ap (λ n. tile_at (set tiles i t) n) same ∙ get_or-set_same tiles i t no_cells k) in
    elim (cases_eq (y / 64 * (size.width / 64) + x / 64) i) [
      | inl same ↦ choose_true _ _ _ _ (eq-eqb (y / 64 * (size.width / 64) + x / 64) i same) (same_tile same)
      | inr other ↦ choose_false _ _ _ _ (ne_eqb (y / 64 * (size.width / 64) + x / 64) i other) (other_tile other)
    ]))

pub set_covers : (tiles : List Tile) (size : Extent) (i : ℕ) (t : Tile) → Cover tiles size → Cover (set tiles i t) size
set_covers tiles size i t cover = record { sized = cover.sized; enough = length-set tiles i t ∙ cover.enough }
