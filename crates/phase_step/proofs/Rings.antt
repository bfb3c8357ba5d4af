-- The 66 by 66 cells of a tile and its border are those of the torus.
use Rattle.std.proofs.Common.{◌≡◌, ℕ, ◌+◌, ◌-◌, ◌%◌, ◌<◌, ◌≤◌, ◌==◌, ◌||◌, Bool, true, false, if◌then◌else◌, sym, ◌∙◌, ap, ap₂, arith, inl, inr, ◌⊎◌}
use Rattle.std.proofs.lemmas.Bool.Decides.{nat_tests}
use Rattle.bit_tile.proofs.Circles.{wraps}
use Rattle.bit_tile.specs.Tile as tile
use Rattle.bit_tile.specs.declared.Tile.{Tile}
use Rattle.tile_border.specs.Ring.{ring}
use Rattle.tile_border.specs.declared.border.Border.{Border}
use Rattle.gas_terms.specs.Cells.{Cells, has}
use Rattle.gas_plane.specs.Planes.{IsTileFrom, IsRingRound}
use Rattle.gas_plane.proofs.Places.{ring_cases}
use Rattle.block_rule.specs.Around.{around}
use Rattle.block_rule.specs.Windows.{IsWindow}

in_ring : (a b : Bool) (r v w : Bool) → (a || b) ≡ true → r ≡ w → (if a || b then r else v) ≡ w
in_ring a b r v w e same = rw e same

in_tile : (a b : Bool) (r v w : Bool) → (a || b) ≡ false → v ≡ w → (if a || b then r else v) ≡ w
in_tile a b r v w e same = rw e same

at_edge : (i j : ℕ) → (i ≡ 0) ⊎ ((i ≡ 65) ⊎ ((j ≡ 0) ⊎ (j ≡ 65))) → ((i == 0 || i == 65) || (j == 0 || j == 65)) ≡ true
at_edge i j e = grind (arith, nat_tests)

not_at_edge : (x y : ℕ) → x < 64 → y < 64 → ((x + 1 == 0 || x + 1 == 65) || (y + 1 == 0 || y + 1 == 65)) ≡ false
not_at_edge x y p q = grind (arith, nat_tests)

pub window_of : (t : Tile) (b : Border) (cells : Cells) (x0 y0 : ℕ) → IsTileFrom t cells x0 y0 → IsRingRound b cells x0 y0 → x0 + 64 ≤ cells.width → y0 + 64 ≤ cells.height → (i j : ℕ) → i ≤ 65 → j ≤ 65
    → (if (i == 0 || i == 65) || (j == 0 || j == 65) then ring b i j else tile.has t (i - 1) (j - 1)) ≡ has cells ((x0 + i + cells.width - 1) % cells.width) ((y0 + j + cells.height - 1) % cells.height)
window_of t b cells x0 y0 from round right bottom i j low down =
    let edge : (i ≡ 0) ⊎ ((i ≡ 65) ⊎ ((j ≡ 0) ⊎ (j ≡ 65))) → (if (i == 0 || i == 65) || (j == 0 || j == 65) then ring b i j else tile.has t (i - 1) (j - 1)) ≡ has cells ((x0 + i + cells.width - 1) % cells.width) ((y0 + j + cells.height - 1) % cells.height) =
    λ e. in_ring (i == 0 || i == 65) (j == 0 || j == 65) (ring b i j) (tile.has t (i - 1) (j - 1)) _ (at_edge i j e) (round.cell i j (low, down, e)) in
    elim (ring_cases i low) [
      | inl e ↦ edge (inl e)
      | inr (inl e) ↦ edge (inr (inl e))
      | inr (inr (x, in_x, ex)) ↦ elim (ring_cases j down) [
        | inl e ↦ edge (inr (inr (inl e)))
        | inr (inl e) ↦ edge (inr (inr (inr e)))
        | inr (inr (y, in_y, ey)) ↦
            let across : x0 + x ≡ (x0 + (x + 1) + cells.width - 1) % cells.width = sym (let f : x0 + (x + 1) + cells.width - 1 ≡ (x0 + x) + cells.width = omega arith in ap (λ m. m % cells.width) f ∙ wraps cells.width (x0 + x) (omega arith)) in
            let along : y0 + y ≡ (y0 + (y + 1) + cells.height - 1) % cells.height = sym (let f : y0 + (y + 1) + cells.height - 1 ≡ (y0 + y) + cells.height = omega arith in ap (λ m. m % cells.height) f ∙ wraps cells.height (y0 + y) (omega arith)) in
            let here : tile.has t (x + 1 - 1) (y + 1 - 1) ≡ has cells (x0 + x) (y0 + y) = ap₂ (tile.has t) (let e : x + 1 - 1 ≡ x = omega arith in e) (let e : y + 1 - 1 ≡ y = omega arith in e) ∙ from.cell x y in_x in_y in
            rw (ex, ey) (in_tile (x + 1 == 0 || x + 1 == 65) (y + 1 == 0 || y + 1 == 65) (ring b (x + 1) (y + 1)) (tile.has t (x + 1 - 1) (y + 1 - 1)) _ (not_at_edge x y in_x in_y) (here ∙ ap₂ (has cells) across along))
      ]
    ]

pub window_is : (t : Tile) (b : Border) (cells : Cells) (x0 y0 : ℕ) → IsTileFrom t cells x0 y0 → IsRingRound b cells x0 y0 → x0 + 64 ≤ cells.width → y0 + 64 ≤ cells.height → IsWindow (around t b) cells x0 y0
window_is t b cells x0 y0 from round right bottom = record { cell = window_of t b cells x0 y0 from round right bottom }
