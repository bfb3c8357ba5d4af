-- Rows of tiles that are copied from one set of cells to another.
use Rattle.std.proofs.Common.{◌≡◌, ℕ, ◌+◌, ◌*◌, ◌/◌, ◌%◌, ◌<◌, ◌≤◌, ◌==◌, ◌⊎◌, if◌then◌else◌, sym, ap, ap₂, ◌∙◌, subst, arith, inl, inr, refl}
use Rattle.std.proofs.lemmas.Nat.{mul-le, mul-add-lt}
use Rattle.std.proofs.lemmas.Bool.{eq-eqb, ne_eqb}
use Rattle.bit_tile.specs.Tile as tile
use Rattle.bit_tile.specs.declared.Tile.{Tile}
use Rattle.gas_terms.specs.Cells.{Cells, has, extent, tile_rectangle}
use Rattle.gas_terms.proofs.Cells.{has-cells_where}
use Rattle.gas_plane.specs.Planes.{IsLattice, IsTileFrom, tile_of, with_tile}
use Rattle.gas_plane.proofs.Places.{wide}
use Rattle.gas_plane.proofs.Sweeps.{left_of, top_of, cell_across, cell_down}
use Rattle.gas_plane.proofs.Tilings.{choose_true, choose_false}

-- Tile `to` of a set of cells is replaced by tile `from` of another, `i` tiles after rows `to_row` and `from_row` of tiles.
pub record IsCopied (source now after : Cells) (from_row to_row i : ℕ) (t : Tile) : Type 0 where
  pub is : IsLattice now
  pub source_is : IsLattice source
  pub wide : now.width ≡ source.width
  pub tile : IsTileFrom t source (tile_rectangle source (from_row * (source.width / 64) + i)).x (tile_rectangle source (from_row * (source.width / 64) + i)).y
  pub written : after ≡ with_tile now (to_row * (source.width / 64) + i) t

module _ (source now next : Cells) (from_row to_row i : ℕ) (t : Tile) (c : IsCopied source now next from_row to_row i t) where
  written : (x y : ℕ) → x < now.width → y < now.height
      → has next x y ≡ (if tile_of now x y == to_row * (source.width / 64) + i then tile.has t (x % 64) (y % 64) else has now x y)
  written x y xl yl =
      let k = to_row * (source.width / 64) + i in
      ap (λ (c : Cells). has c x y) c.written ∙ has-cells_where now.width now.height (λ x y. if tile_of now x y == k then tile.has t (x % 64) (y % 64) else has now x y) x y xl yl

  -- a cell of the tile is the source's
  pub copied_here : (x y : ℕ) → x < source.width → to_row * 64 + y < now.height → y / 64 * (source.width / 64) + x / 64 ≡ i
      → has next x (to_row * 64 + y) ≡ has source x (from_row * 64 + y)
  copied_here x y xl yl e =
      let a = source.width / 64 in
      let across = wide (extent source) c.source_is.sized in
      let here : tile_of now x (to_row * 64 + y) ≡ to_row * a + i = ap (λ w. (to_row * 64 + y) / 64 * (w / 64) + x / 64) c.wide ∙ (let d : (to_row * 64 + y) / 64 ≡ to_row + y / 64 = omega arith in ap (λ r. r * a + x / 64) d ∙ (let f : (to_row + y / 64) * a + x / 64 ≡ to_row * a + (y / 64 * a + x / 64) = omega arith in f ∙ ap (λ n. to_row * a + n) e)) in
      let there : tile_of source x (from_row * 64 + y) ≡ from_row * a + i = (let d : (from_row * 64 + y) / 64 ≡ from_row + y / 64 = omega arith in ap (λ r. r * a + x / 64) d) ∙ (let f : (from_row + y / 64) * a + x / 64 ≡ from_row * a + (y / 64 * a + x / 64) = omega arith in f ∙ ap (λ n. from_row * a + n) e) in
      let left : left_of source (from_row * a + i) + x % 64 ≡ x = cell_across source (from_row * a + i) x (from_row * 64 + y) across xl there in
      let top : top_of source (from_row * a + i) + y % 64 ≡ from_row * 64 + y = (let d : y % 64 ≡ (from_row * 64 + y) % 64 = omega arith in ap (λ n. top_of source (from_row * a + i) + n) d) ∙ cell_down source (from_row * a + i) x (from_row * 64 + y) across xl there in
      let low : (to_row * 64 + y) % 64 ≡ y % 64 = omega arith in
      written x (to_row * 64 + y) (subst (λ w. x < w) (sym c.wide) xl) yl
      ∙ (sym (choose_true _ _ _ _ (eq-eqb _ _ here) refl)
      ∙ (ap (tile.has t (x % 64)) low
      ∙ (c.tile.cell (x % 64) (y % 64) (omega arith) (omega arith)
      ∙ ap₂ (has source) left top)))

  -- and each other cell is as before
  pub copied_beside : (x y : ℕ) → x < now.width → y < now.height → (y / 64 * (source.width / 64) + x / 64 ≡ to_row * (source.width / 64) + i → ⊥)
      → has next x y ≡ has now x y
  copied_beside x y xl yl apart =
      let here : tile_of now x y ≡ y / 64 * (source.width / 64) + x / 64 = ap (λ w. y / 64 * (w / 64) + x / 64) c.wide in
      written x y xl yl ∙ sym (choose_false _ _ _ _ (ne_eqb _ _ (λ e. apart (sym here ∙ e))) refl)

-- a cell of so many rows is in one of their tiles
pub tile_in_rows : (a x y rows : ℕ) → x / 64 < a → y < rows * 64 → y / 64 * a + x / 64 < rows * a
tile_in_rows a x y rows column row =
    let e : y / 64 * a + x / 64 < a * rows = mul-add-lt (y / 64) a (x / 64) rows (omega arith) column in
    omega (arith, e)

-- and one below or above them in none
pub tile_outside : (a x y to rows : ℕ) → x / 64 < a → (y < to * 64) ⊎ ((to + rows) * 64 ≤ y)
    → (y / 64 * a + x / 64 < to * a) ⊎ (to * a + rows * a ≤ y / 64 * a + x / 64)
tile_outside a x y to rows column apart =
    elim apart [
      | inl below ↦ inl (tile_in_rows a x y to column below)
      | inr above ↦ inr (
          let e : (to + rows) * a ≤ y / 64 * a = mul-le (to + rows) a (y / 64) a (omega arith) (omega arith) in
          omega (arith, e))
    ]
