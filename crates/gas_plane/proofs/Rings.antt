-- The ring round a tile, from the eight tiles there.
use Rattle.std.proofs.Common.{◌≡◌, ℕ, ◌+◌, ◌-◌, ◌*◌, ◌/◌, ◌%◌, ◌<◌, ◌≤◌, refl, subst, sym, ◌∙◌, ap, ap₂, arith, inl, inr}
use Rattle.std.proofs.Math.Nat.{mod-lt}
use Rattle.std.proofs.lemmas.Nat.{row-Below}
use Rattle.bit_tile.specs.Tile as tile
use Rattle.bit_tile.specs.declared.Tile.{Tile}
use Rattle.tile_border.specs.Ring.{ring, IsBorderOf}
use Rattle.tile_border.specs.declared.border.Border.{Border}
use Rattle.tile_border.specs.declared.border.Neighbors.{Neighbors}
use Rattle.tile_border.specs.declared.Round.{Round}
use Rattle.gas_terms.specs.Cells.{Cells, extent, has, tile_count}
use Rattle.gas_plane.specs.Tiles.{IsColumnOf}
use Rattle.gas_plane.specs.declared.around.TileRows.{TileRows}
use Rattle.gas_plane.specs.Planes.{IsLattice, IsTileFrom, AreTilesRound, IsRingRound, place_by, column_by, row_by}
use Rattle.gas_plane.proofs.BareTiles.{by_one, by_two}
use Rattle.gas_plane.proofs.Places.{IsWholeTiles, wide, high, ring_before, ring_after, ring_in, ring_cases}

-- a column and a row of tiles, and those beside them
pub record TilePlaces : Type 0 where
  pub left : ℕ
  pub column : ℕ
  pub right : ℕ
  pub above : ℕ
  pub row : ℕ
  pub below : ℕ

-- those that tile i stands in, and those beside them round the torus
pub record ArePlacesRound (cells : Cells) (i : ℕ) (p : TilePlaces) : Type 0 where
  pub column : p.column ≡ i % (cells.width / 64)
  pub row : p.row ≡ i / (cells.width / 64)
  pub left : p.left ≡ (p.column + cells.width / 64 - 1) % (cells.width / 64)
  pub right : p.right ≡ (p.column + 1) % (cells.width / 64)
  pub above : p.above ≡ (p.row + cells.height / 64 - 1) % (cells.height / 64)
  pub below : p.below ≡ (p.row + 1) % (cells.height / 64)
  pub columns : (p.column < cells.width / 64) × (p.left < cells.width / 64) × (p.right < cells.width / 64)
  pub rows : (p.row < cells.height / 64) × (p.above < cells.height / 64) × (p.below < cells.height / 64)

module _ (b : Border) (cells : Cells) (k : ℕ) (p : TilePlaces) (is : IsLattice cells) (places : ArePlacesRound cells k p) where
  across : IsWholeTiles cells.width
  across = wide (extent cells) is.sized

  down : IsWholeTiles cells.height
  down = high (extent cells) is.sized

  -- what the ring has at (i, j), if a tile that begins at (u, v) has it at (x, y)
  at : (i j u v x y : ℕ) (t : Tile) → IsTileFrom t cells (u * 64) (v * 64) → x < 64 → y < 64 → ring b i j ≡ tile.has t x y
      → (p.column * 64 + i + cells.width - 1) % cells.width ≡ u * 64 + x → (p.row * 64 + j + cells.height - 1) % cells.height ≡ v * 64 + y
      → ring b i j ≡ has cells ((p.column * 64 + i + cells.width - 1) % cells.width) ((p.row * 64 + j + cells.height - 1) % cells.height)
  at i j u v x y t from in_x in_y e ex ey = e ∙ (from.cell x y in_x in_y ∙ sym (ap₂ (has cells) ex ey))

  before_x : (p.column * 64 + 0 + cells.width - 1) % cells.width ≡ p.left * 64 + 63
  before_x = ring_before cells.width p.column across places.columns.0 ∙ ap (λ k. k * 64 + 63) (sym places.left)

  in_x : (x : ℕ) → x < 64 → (p.column * 64 + (x + 1) + cells.width - 1) % cells.width ≡ p.column * 64 + x
  in_x x h = ring_in cells.width p.column x across places.columns.0 h

  after_x : (p.column * 64 + 65 + cells.width - 1) % cells.width ≡ p.right * 64 + 0
  after_x = ring_after cells.width p.column across places.columns.0 ∙ ap (λ k. k * 64 + 0) (sym places.right)

  before_y : (p.row * 64 + 0 + cells.height - 1) % cells.height ≡ p.above * 64 + 63
  before_y = ring_before cells.height p.row down places.rows.0 ∙ ap (λ k. k * 64 + 63) (sym places.above)

  in_y : (y : ℕ) → y < 64 → (p.row * 64 + (y + 1) + cells.height - 1) % cells.height ≡ p.row * 64 + y
  in_y y h = ring_in cells.height p.row y down places.rows.0 h

  after_y : (p.row * 64 + 65 + cells.height - 1) % cells.height ≡ p.below * 64 + 0
  after_y = ring_after cells.height p.row down places.rows.0 ∙ ap (λ k. k * 64 + 0) (sym places.below)

  ring_here : (near : Neighbors)
      → IsTileFrom near.above cells (p.column * 64) (p.above * 64) → IsTileFrom near.below cells (p.column * 64) (p.below * 64)
      → IsTileFrom near.left cells (p.left * 64) (p.row * 64) → IsTileFrom near.right cells (p.right * 64) (p.row * 64)
      → IsTileFrom near.above_left cells (p.left * 64) (p.above * 64) → IsTileFrom near.above_right cells (p.right * 64) (p.above * 64)
      → IsTileFrom near.below_left cells (p.left * 64) (p.below * 64) → IsTileFrom near.below_right cells (p.right * 64) (p.below * 64)
      → IsBorderOf b near → IsRingRound b cells (p.column * 64) (p.row * 64)
  ring_here near is_above is_below is_left is_right is_above_left is_above_right is_below_left is_below_right border =
      record {
        cell = λ i j (low, deep, edge).
            elim (ring_cases i low) [
              | inl i0 ↦ elim (ring_cases j deep) [
                | inl j0 ↦ rw (i0, j0) (at 0 0 p.left p.above 63 63 near.above_left is_above_left (omega arith) (omega arith) border.above_left before_x before_y)
                | inr (inl j65) ↦ rw (i0, j65) (at 0 65 p.left p.below 63 0 near.below_left is_below_left (omega arith) (omega arith) border.below_left before_x after_y)
                | inr (inr (y, h, e)) ↦ rw (i0, e) (at 0 (y + 1) p.left p.row 63 y near.left is_left (omega arith) h (border.left y h) before_x (in_y y h))
              ]
              | inr (inl i65) ↦ elim (ring_cases j deep) [
                | inl j0 ↦ rw (i65, j0) (at 65 0 p.right p.above 0 63 near.above_right is_above_right (omega arith) (omega arith) border.above_right after_x before_y)
                | inr (inl j65) ↦ rw (i65, j65) (at 65 65 p.right p.below 0 0 near.below_right is_below_right (omega arith) (omega arith) border.below_right after_x after_y)
                | inr (inr (y, h, e)) ↦ rw (i65, e) (at 65 (y + 1) p.right p.row 0 y near.right is_right (omega arith) h (border.right y h) after_x (in_y y h))
              ]
              | inr (inr (x, h, ex)) ↦ elim (ring_cases j deep) [
                | inl j0 ↦ rw (ex, j0) (at (x + 1) 0 p.column p.above x 63 near.above is_above h (omega arith) (border.above x h) (in_x x h) before_y)
                | inr (inl j65) ↦ rw (ex, j65) (at (x + 1) 65 p.column p.below x 0 near.below is_below h (omega arith) (border.below x h) (in_x x h) after_y)
                | inr (inr (y, in_column, e)) ↦ absurd (omega arith)
              ]
            ];
      }

  pub ring_of : (near : Neighbors)
      → IsTileFrom near.above cells (p.column * 64) (p.above * 64) → IsTileFrom near.below cells (p.column * 64) (p.below * 64)
      → IsTileFrom near.left cells (p.left * 64) (p.row * 64) → IsTileFrom near.right cells (p.right * 64) (p.row * 64)
      → IsTileFrom near.above_left cells (p.left * 64) (p.above * 64) → IsTileFrom near.above_right cells (p.right * 64) (p.above * 64)
      → IsTileFrom near.below_left cells (p.left * 64) (p.below * 64) → IsTileFrom near.below_right cells (p.right * 64) (p.below * 64)
      → IsBorderOf b near
      → IsRingRound b cells (k % (cells.width / 64) * 64) (k / (cells.width / 64) * 64)
  ring_of near is_above is_below is_left is_right is_above_left is_above_right is_below_left is_below_right border =
      rw (← places.column, ← places.row) (ring_here near is_above is_below is_left is_right is_above_left is_above_right is_below_left is_below_right border)

place_before : (k n : ℕ) → (k + n - 1) % n ≡ place_by k 0 n
place_before k n = ap (λ m. m % n) (omega arith)

-- the eight tiles by their numbers
module _ (cells : Cells) (i : ℕ) (p : TilePlaces) (places : ArePlacesRound cells i p) where
  column : p.column * 64 ≡ column_by cells i 1
  column = ap (λ k. k * 64) (sym (by_one (cells.width / 64) p.column places.columns.0)) ∙ ap (λ k. place_by k 1 (cells.width / 64) * 64) places.column

  left : p.left * 64 ≡ column_by cells i 0
  left = ap (λ k. k * 64) (places.left ∙ place_before p.column (cells.width / 64)) ∙ ap (λ k. place_by k 0 (cells.width / 64) * 64) places.column

  right : p.right * 64 ≡ column_by cells i 2
  right = ap (λ k. k * 64) (places.right ∙ sym (by_two (cells.width / 64) p.column places.columns.0)) ∙ ap (λ k. place_by k 2 (cells.width / 64) * 64) places.column

  row : p.row * 64 ≡ row_by cells i 1
  row = ap (λ k. k * 64) (sym (by_one (cells.height / 64) p.row places.rows.0)) ∙ ap (λ k. place_by k 1 (cells.height / 64) * 64) places.row

  above : p.above * 64 ≡ row_by cells i 0
  above = ap (λ k. k * 64) (places.above ∙ place_before p.row (cells.height / 64)) ∙ ap (λ k. place_by k 0 (cells.height / 64) * 64) places.row

  below : p.below * 64 ≡ row_by cells i 2
  below = ap (λ k. k * 64) (places.below ∙ sym (by_two (cells.height / 64) p.row places.rows.0)) ∙ ap (λ k. place_by k 2 (cells.height / 64) * 64) places.row

  moved : (t : Tile) (x y u v : ℕ) → x ≡ u → y ≡ v → IsTileFrom t cells x y → IsTileFrom t cells u v
  moved t x y u v ex ey from = rw (← ex, ← ey) from

  pub tiles_round : (r : Round) → IsTileFrom r.above.now cells (p.column * 64) (p.above * 64) → IsTileFrom r.below.now cells (p.column * 64) (p.below * 64)
      → IsTileFrom r.left.now cells (p.left * 64) (p.row * 64) → IsTileFrom r.right.now cells (p.right * 64) (p.row * 64)
      → IsTileFrom r.above_left.now cells (p.left * 64) (p.above * 64) → IsTileFrom r.above_right.now cells (p.right * 64) (p.above * 64)
      → IsTileFrom r.below_left.now cells (p.left * 64) (p.below * 64) → IsTileFrom r.below_right.now cells (p.right * 64) (p.below * 64)
      → AreTilesRound r cells i
  tiles_round r is_above is_below is_left is_right is_above_left is_above_right is_below_left is_below_right = grind (arith, above, moved, column, below, left, row, right)

pub row_in : (cells : Cells) (i : ℕ) → IsLattice cells → i < tile_count cells → i / (cells.width / 64) < cells.height / 64
row_in cells i is within = (row-Below i (cells.width / 64) (cells.width / 64) (cells.height / 64) within (let e : cells.width / 64 ≤ cells.width / 64 = omega arith in e)).1

-- the places round tile i, by the columns of tiles beside its own
abbrev pub places_of : Cells → ℕ → ℕ → ℕ → ℕ → TilePlaces
places_of cells i c l r =
    let row = i / (cells.width / 64) in
    let down = cells.height / 64 in
    record { left = l; column = c; right = r; above = (row + down - 1) % down; row = row; below = (row + 1) % down }

pub are_places : (rows : TileRows) (cells : Cells) (i c l r : ℕ) → IsColumnOf rows c cells i → l ≡ (c + rows.across - 1) % rows.across → l < rows.across → r ≡ (c + 1) % rows.across → r < rows.across → ArePlacesRound cells i (places_of cells i c l r)
are_places rows cells i c l r is e p f q =
    let a = is.rows.across in
    let high_some = (high (extent cells) is.lattice.sized).some in
    record {
      column = is.place;
      row = refl;
      left = e ∙ ap (λ n. (c + n - 1) % n) a;
      right = f ∙ ap (λ n. (c + 1) % n) a;
      above = refl;
      below = refl;
      columns = (subst (λ n. n < cells.width / 64) (sym is.place) (mod-lt i (wide (extent cells) is.lattice.sized).some), subst (λ n. l < n) a p, subst (λ n. r < n) a q);
      rows = (row_in cells i is.lattice is.within, mod-lt _ high_some, mod-lt _ high_some);
    }
