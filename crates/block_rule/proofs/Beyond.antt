-- The blocks of odd parity that begin in a tile, on the torus: they reach one column and one row beyond it.
use Rattle.std.proofs.Common.{◌≡◌, ℕ, ◌+◌, ◌-◌, ◌*◌, ◌%◌, ◌<◌, ◌≤◌, ◌==◌, Bool, false, refl, sym, ◌∙◌, ap, ap₂, arith, inl, inr}
use Rattle.std.proofs.Math.Nat.{mod-eq_of_lt}
use Rattle.std.proofs.lemmas.Nat.{mod-mul-add}
use Rattle.std.proofs.lemmas.Bool.{cases_eq, eq-eqb, ne_eqb}
use Rattle.gas_terms.specs.Cells.{Cells, joined, HasEvenSides, HasSidesOf}
use Rattle.gas_terms.specs.Cells as plane
use Rattle.gas_terms.specs.Gas.{site_of, is_walled, streamed}
use Rattle.gas_terms.specs.Block.{other_coordinate}
use Rattle.gas_terms.proofs.Cells.{has-cells_where}
use Rattle.gas_terms.proofs.Blocks.{cell_streamed, cell_walled}
use Rattle.block_rule.specs.Around.{either, is_walled_at, turned_window}
use Rattle.block_rule.specs.Cell.{partner}
use Rattle.block_rule.specs.Windows.{IsReached, IsView, IsTilePlace, IsAround}
use Rattle.block_rule.proofs.Around.{walled_by_cells, turned_by_cells}
use Rattle.block_rule.proofs.Torus.{own_place, partner_place, any_of_four, cell_same, view_either}

around_below : (w n column : ℕ) → 0 < w → IsAround w n column → column < w
around_below w n column some is = elim is [ inl a ↦ let h = a.0 in let e = a.1 in omega (arith, h, e) | inr a ↦ let e = a.1 in omega (arith, some, e) ]

pub own_around : (w from x column : ℕ) → 0 < w → IsAround w (from + x) column → (from + (x + 1) + w - 1) % w ≡ column
own_around w from x column some is =
    elim is [
      | inl a ↦ own_place w from x a.0 ∙ sym a.1
      | inr a ↦
          let n = a.0 in
          ap (λ m. m % w) (let e : from + (x + 1) + w - 1 ≡ 2 * w + 0 = omega (arith, n) in e) ∙ (mod-mul-add 2 w 0 some ∙ sym a.1)
    ]

partner_even : (x : ℕ) → x % 2 ≡ 0 → partner 1 x ≡ x
partner_even x even = let e : ((x + 1) % 2 == 0) ≡ false = ne_eqb ((x + 1) % 2) 0 (λ e. omega (arith, e, even)) in rw e refl

partner_around : (w from x column : ℕ) → from % 2 ≡ 0 → w % 2 ≡ 0 → 0 < w → IsAround w (from + x) column → (from + partner 1 x + w - 1) % w ≡ other_coordinate w 1 column
partner_around w from x column even even_w some is =
    elim is [
      | inl a ↦ partner_place w from 1 x even a.0 ∙ ap (other_coordinate w 1) (sym a.1)
      | inr a ↦
          let n = a.0 in
          let even_x : x % 2 ≡ 0 = omega (arith, n, even, even_w) in
          ap (λ m. (from + m + w - 1) % w) (partner_even x even_x)
          ∙ (ap (λ m. m % w) (let e : from + x + w - 1 ≡ 1 * w + (w - 1) = omega (arith, n, some) in e)
          ∙ (mod-mul-add 1 w (w - 1) (omega (arith, some))
          ∙ ((let e : w - 1 ≡ 0 + w - 1 = omega arith in e)
          ∙ (sym (mod-eq_of_lt (let l : 0 + w - 1 < w = omega (arith, some) in l))
          ∙ ap (other_coordinate w 1) (sym a.1)))))
    ]

reached : (x : ℕ) → x ≤ 64 → IsReached 1 (x + 1)
reached x h = (omega arith, omega (arith, h))

partner_reached : (x : ℕ) → x ≤ 64 → IsReached 1 (partner 1 x)
partner_reached x h = grind (arith, cases_eq, eq-eqb, ne_eqb)

module _ (window : ℕ → ℕ → Bool) (cells : Cells) (x0 y0 x y column row : ℕ) (view : IsView 1 window cells x0 y0) (even : HasEvenSides cells.width cells.height) (even_x : x0 % 2 ≡ 0) (even_y : y0 % 2 ≡ 0) (wide : 0 < cells.width) (high : 0 < cells.height) (in_row : x ≤ 64) (in_column : y ≤ 64) (around_x : IsAround cells.width (x0 + x) column) (around_y : IsAround cells.height (y0 + y) row) where
  own_there : window (x + 1) (y + 1) ≡ plane.has cells column row
  own_there = view.cell (x + 1) (y + 1) (reached x in_row) (reached y in_column) ∙ ap₂ (plane.has cells) (own_around cells.width x0 x column wide around_x) (own_around cells.height y0 y row high around_y)

  beside_there : window (partner 1 x) (y + 1) ≡ plane.has cells (other_coordinate cells.width 1 column) row
  beside_there = view.cell (partner 1 x) (y + 1) (partner_reached x in_row) (reached y in_column) ∙ ap₂ (plane.has cells) (partner_around cells.width x0 x column even_x even.wide wide around_x) (own_around cells.height y0 y row high around_y)

  facing_there : window (x + 1) (partner 1 y) ≡ plane.has cells column (other_coordinate cells.height 1 row)
  facing_there = view.cell (x + 1) (partner 1 y) (reached x in_row) (partner_reached y in_column) ∙ ap₂ (plane.has cells) (own_around cells.width x0 x column wide around_x) (partner_around cells.height y0 y row even_y even.high high around_y)

  across_there : window (partner 1 x) (partner 1 y) ≡ plane.has cells (other_coordinate cells.width 1 column) (other_coordinate cells.height 1 row)
  across_there = view.cell (partner 1 x) (partner 1 y) (partner_reached x in_row) (partner_reached y in_column) ∙ ap₂ (plane.has cells) (partner_around cells.width x0 x column even_x even.wide wide around_x) (partner_around cells.height y0 y row even_y even.high high around_y)

  walled_there : is_walled_at 1 window x y ≡ is_walled cells (site_of 1 cells.width cells.height column row)
  walled_there = walled_by_cells 1 window x y ∙ (any_of_four _ _ _ _ _ _ _ _ own_there facing_there beside_there across_there ∙ sym (cell_walled 1 cells column row (around_below cells.width (x0 + x) column wide around_x) (around_below cells.height (y0 + y) row high around_y)))

sides_walled : (cells : Cells) (w h v g column row : ℕ) → w ≡ v → h ≡ g → is_walled cells (site_of 1 w h column row) ≡ is_walled cells (site_of 1 v g column row)
sides_walled cells w h v g column row e f = ap₂ (λ m n. is_walled cells (site_of 1 m n column row)) e f

turned_around : (near near_solid : ℕ → ℕ → Bool) (particles solid : Cells) (x0 y0 x y column row : ℕ) → HasEvenSides particles.width particles.height → HasSidesOf solid particles → 0 < particles.width → 0 < particles.height → IsView 1 near particles x0 y0 → IsView 1 near_solid solid x0 y0 → x0 % 2 ≡ 0 → y0 % 2 ≡ 0
    → x ≤ 64 → y ≤ 64 → IsAround particles.width (x0 + x) column → IsAround particles.height (y0 + y) row → turned_window 1 near near_solid x y ≡ plane.has (streamed 1 particles solid) column row
turned_around near near_solid particles solid x0 y0 x y column row even sides wide high view solid_view even_x even_y in_row in_column around_x around_y =
    let w = particles.width in
    let h = particles.height in
    turned_by_cells 1 near (is_walled_at 1 near_solid x y) x y
    ∙ cell_same _ _ _ _ _ _ _ _ _ _
    (walled_there near_solid solid x0 y0 x y column row solid_view
    (record { wide = ap (λ n. n % 2) sides.wide ∙ even.wide; high = ap (λ n. n % 2) sides.high ∙ even.high }) even_x even_y (omega (arith, wide, sides.wide)) (omega (arith, high, sides.high)) in_row in_column (rw sides.wide around_x) (rw sides.high around_y)
    ∙ sides_walled solid solid.width solid.height w h column row sides.wide sides.high)
    (own_there near particles x0 y0 x y column row view even even_x even_y wide high in_row in_column around_x around_y)
    (beside_there near particles x0 y0 x y column row view even even_x even_y wide high in_row in_column around_x around_y)
    (facing_there near particles x0 y0 x y column row view even even_x even_y wide high in_row in_column around_x around_y)
    (across_there near particles x0 y0 x y column row view even even_x even_y wide high in_row in_column around_x around_y)
    ∙ sym (cell_streamed 1 particles solid column row even (around_below w (x0 + x) column wide around_x) (around_below h (y0 + y) row high around_y))

-- by the laws of gas_terms
pub reach_turned : (particles walls obstacles : Cells) (x0 y0 : ℕ) (near near_walls near_obstacles : ℕ → ℕ → Bool) → IsTilePlace particles walls obstacles x0 y0 → IsView 1 near particles x0 y0 → IsView 1 near_walls walls x0 y0 → IsView 1 near_obstacles obstacles x0 y0
    → (x y column row : ℕ) → x ≤ 64 → y ≤ 64 → IsAround particles.width (x0 + x) column → IsAround particles.height (y0 + y) row → turned_window 1 near (either near_walls near_obstacles) x y ≡ plane.has (streamed 1 particles (joined walls obstacles)) column row
reach_turned particles walls obstacles x0 y0 near near_walls near_obstacles place view walls_view obstacles_view x y column row in_row in_column around_x around_y =
    let right = place.right in
    let bottom = place.bottom in
    let wide : 0 < particles.width = omega (arith, right) in
    let high : 0 < particles.height = omega (arith, bottom) in
    turned_around near (either near_walls near_obstacles) particles (joined walls obstacles) x0 y0 x y column row place.even_sides (record { wide = place.of_walls.wide; high = place.of_walls.high }) wide high view
    (view_either has-cells_where 1 near_walls near_obstacles walls obstacles x0 y0 (omega (arith, wide, place.of_walls.wide)) (omega (arith, high, place.of_walls.high)) (record { wide = place.of_obstacles.wide ∙ sym place.of_walls.wide; high = place.of_obstacles.high ∙ sym place.of_walls.high }) walls_view obstacles_view)
    place.even_column place.even_row in_row in_column around_x around_y

-- and with one set
pub reach_set : (particles solid : Cells) (x0 y0 : ℕ) (near near_solid : ℕ → ℕ → Bool) → IsTilePlace particles solid solid x0 y0 → IsView 1 near particles x0 y0 → IsView 1 near_solid solid x0 y0
    → (x y column row : ℕ) → x ≤ 64 → y ≤ 64 → IsAround particles.width (x0 + x) column → IsAround particles.height (y0 + y) row → turned_window 1 near near_solid x y ≡ plane.has (streamed 1 particles solid) column row
reach_set particles solid x0 y0 near near_solid place view solid_view x y column row in_row in_column around_x around_y =
    let right = place.right in
    let bottom = place.bottom in
    turned_around near near_solid particles solid x0 y0 x y column row place.even_sides place.of_walls (omega (arith, right)) (omega (arith, bottom)) view solid_view place.even_column place.even_row in_row in_column around_x around_y
