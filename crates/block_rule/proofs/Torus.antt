-- A tile's blocks and their cells on the torus.
use Rattle.std.proofs.Common.{◌≡◌, ℕ, ◌+◌, ◌-◌, ◌%◌, ◌<◌, ◌≤◌, Bool, true, false, ◌||◌, if◌then◌else◌, refl, sym, ◌∙◌, ap, arith}
use Rattle.std.proofs.Math.Nat.{mod-lt}
use Rattle.std.proofs.lemmas.Nat.{mod-mul-add}
use Rattle.std.proofs.lemmas.Bool.{cases_eq, eq-eqb, ne_eqb}
use Rattle.bit_tile.proofs.Circles.{wraps}
use Rattle.bit_tile.specs.Tile.{HasCells}
use Rattle.bit_tile.specs.declared.Tile.{Tile}
use Rattle.tile_border.specs.declared.border.Border.{Border}
use Rattle.gas_terms.specs.Velocity.{has_parity}
use Rattle.gas_terms.specs.Cells.{Cells, joined, cells_where, HasEvenSides, HasSidesOf}
use Rattle.gas_terms.specs.Cells as plane
use Rattle.gas_terms.specs.Gas.{along, site_of, is_walled, streamed}
use Rattle.gas_terms.specs.Block.{corner_rule, other_coordinate}
use Rattle.gas_terms.proofs.Cells.{has-cells_where}
use Rattle.gas_terms.proofs.Blocks.{cell_streamed, cell_walled}
use Rattle.block_rule.specs.Around.{around, either, is_walled_at, turned_window}
use Rattle.block_rule.specs.Cell.{partner, turned_cell}
use Rattle.block_rule.specs.Windows.{IsWindow, IsReached, IsView, IsTilePlace}
use Rattle.block_rule.proofs.Around.{walled_by_cells, turned_by_cells}

-- the laws of gas_terms that are used here
abbrev pub MadeCells : Type 0
MadeCells = (w h : ℕ) (test : ℕ → ℕ → Bool) (x y : ℕ) → x < w → y < h → plane.has (cells_where w h test) x y ≡ test x y

abbrev pub CellsStep : Type 0
CellsStep =
    (p : ℕ) (particles walls : Cells) (x y : ℕ) → HasEvenSides particles.width particles.height → x < particles.width → y < particles.height →
    plane.has (streamed p particles walls) x y
    ≡ corner_rule (is_walled walls (site_of p particles.width particles.height x y)) (plane.has particles x y)
    (plane.has particles (other_coordinate particles.width p x) (other_coordinate particles.height p y))
    (plane.has particles (other_coordinate particles.width p x) y) (plane.has particles x (other_coordinate particles.height p y))

abbrev pub CellsWalled : Type 0
CellsWalled =
    (p : ℕ) (walls : Cells) (x y : ℕ) → x < walls.width → y < walls.height →
    is_walled walls (site_of p walls.width walls.height x y)
    ≡ (plane.has walls x y || plane.has walls (other_coordinate walls.width p x) (other_coordinate walls.height p y)
    || plane.has walls (other_coordinate walls.width p x) y || plane.has walls x (other_coordinate walls.height p y))

next_wraps : (w k : ℕ) → k < w → (k + 1 + w) % w ≡ (k + 1) % w
next_wraps w k less = grind (arith, cases_eq, mod-mul-add, wraps)

pub parity_same : (p from x : ℕ) → from % 2 ≡ 0 → has_parity p (from + x) ≡ has_parity p x
parity_same p from x even = grind (arith, cases_eq, eq-eqb, ne_eqb)

-- the tile's column or row x, and the other one of its blocks, in a window and on the torus
pub own_place : (w from x : ℕ) → from + x < w → (from + (x + 1) + w - 1) % w ≡ from + x
own_place w from x within = ap (λ m. m % w) (let e : from + (x + 1) + w - 1 ≡ from + x + w = omega arith in e) ∙ wraps w (from + x) within

partner_along : (w from x : ℕ) (r : Bool) → from + x < w → (from + (if r then x + 2 else x) + w - 1) % w ≡ along w r (from + x)
partner_along w from x true within =
    ap (λ m. m % w) (let e : from + (x + 2) + w - 1 ≡ from + x + 1 + w = omega arith in e) ∙ next_wraps w (from + x) within
partner_along w from x false within = refl

pub partner_place : (w from p x : ℕ) → from % 2 ≡ 0 → from + x < w → (from + partner p x + w - 1) % w ≡ other_coordinate w p (from + x)
partner_place w from p x even within = grind (arith, partner_along, parity_same)

partner_reached : (p x : ℕ) → p < 2 → x < 64 → IsReached p (partner p x)
partner_reached p x small within = grind (arith, cases_eq, eq-eqb, ne_eqb)

-- the cells of the tile's blocks are those of the torus's blocks
module _ (p : ℕ) (window : ℕ → ℕ → Bool) (cells : Cells) (x0 y0 x y : ℕ) (small : p < 2) (view : IsView p window cells x0 y0) (even_x : x0 % 2 ≡ 0) (even_y : y0 % 2 ≡ 0) (in_row : x < 64) (in_column : y < 64) (within : x0 + x < cells.width) (below : y0 + y < cells.height) where
  pub own_same : window (x + 1) (y + 1) ≡ plane.has cells (x0 + x) (y0 + y)
  own_same = grind (arith, own_place)

  pub beside_same : window (partner p x) (y + 1) ≡ plane.has cells (other_coordinate cells.width p (x0 + x)) (y0 + y)
  beside_same = grind (arith, partner_reached, partner_place, own_place)

  pub facing_same : window (x + 1) (partner p y) ≡ plane.has cells (x0 + x) (other_coordinate cells.height p (y0 + y))
  facing_same = grind (arith, partner_reached, own_place, partner_place)

  pub across_same : window (partner p x) (partner p y) ≡ plane.has cells (other_coordinate cells.width p (x0 + x)) (other_coordinate cells.height p (y0 + y))
  across_same = grind (arith, partner_reached, partner_place)

pub any_of_four : (a b c d e f g h : Bool) → a ≡ e → b ≡ f → c ≡ g → d ≡ h → ((a || b) || (c || d)) ≡ (e || h || g || f)
any_of_four a b c d e f g h ae bf cg dh = grind arith

corner_is_cell : (w own beside facing across : Bool) → corner_rule w own across beside facing ≡ turned_cell w own beside facing across
corner_is_cell w own beside facing across = grind arith

pub cell_same : (w v own beside facing across a b c d : Bool) → w ≡ v → own ≡ a → beside ≡ b → facing ≡ c → across ≡ d → turned_cell w own beside facing across ≡ corner_rule v a d b c
cell_same w v own beside facing across a b c d wv oa sb fc ad = rw (wv, oa, sb, fc, ad) (sym (corner_is_cell v a b c d))

pub walled_same : CellsWalled → (p : ℕ) (window : ℕ → ℕ → Bool) (cells : Cells) (w h x0 y0 x y : ℕ) → p < 2 → cells.width ≡ w → cells.height ≡ h → IsView p window cells x0 y0 → x0 % 2 ≡ 0 → y0 % 2 ≡ 0 → x < 64 → y < 64 → x0 + x < w → y0 + y < h →
    is_walled_at p window x y ≡ is_walled cells (site_of p w h (x0 + x) (y0 + y))
walled_same law p window cells w h x0 y0 x y small wide high view even_x even_y in_row in_column within below = grind (arith, walled_by_cells, any_of_four, own_same, facing_same, beside_same, across_same)

turned_same : CellsStep → CellsWalled → (p : ℕ) (near near_solid : ℕ → ℕ → Bool) (particles solid : Cells) (x0 y0 x y : ℕ) → p < 2 → HasEvenSides particles.width particles.height → solid.width ≡ particles.width → solid.height ≡ particles.height → IsView p near particles x0 y0 → IsView p near_solid solid x0 y0 → x0 % 2 ≡ 0 → y0 % 2 ≡ 0 → x < 64 → y < 64 → x0 + x < particles.width → y0 + y < particles.height →
    turned_window p near near_solid x y ≡ plane.has (streamed p particles solid) (x0 + x) (y0 + y)
turned_same step walled p near near_solid particles solid x0 y0 x y small even wide high view solid_view even_x even_y in_row in_column within below =
    turned_by_cells p near (is_walled_at p near_solid x y) x y
    ∙ cell_same _ _ _ _ _ _ _ _ _ _
    (walled_same walled p near_solid solid particles.width particles.height x0 y0 x y small wide high solid_view even_x even_y in_row in_column within below)
    (own_same p near particles x0 y0 x y small view even_x even_y in_row in_column within below)
    (beside_same p near particles x0 y0 x y small view even_x even_y in_row in_column within below)
    (facing_same p near particles x0 y0 x y small view even_x even_y in_row in_column within below)
    (across_same p near particles x0 y0 x y small view even_x even_y in_row in_column within below)
    ∙ sym (step p particles solid (x0 + x) (y0 + y) even within below)

-- a view of two sets together
pub view_either : MadeCells → (p : ℕ) (a b : ℕ → ℕ → Bool) (some others : Cells) (x0 y0 : ℕ) → 0 < some.width → 0 < some.height → HasSidesOf others some → IsView p a some x0 y0 → IsView p b others x0 y0 → IsView p (either a b) (joined some others) x0 y0
view_either made p a b some others x0 y0 wide high sides is_a is_b = grind (arith, mod-lt)

module _ (p : ℕ) (particles walls obstacles : Cells) (x0 y0 : ℕ) (near_walls near_obstacles : ℕ → ℕ → Bool) (place : IsTilePlace particles walls obstacles x0 y0) (walls_view : IsView p near_walls walls x0 y0) (obstacles_view : IsView p near_obstacles obstacles x0 y0) where
  pub solid_view : MadeCells → IsView p (either near_walls near_obstacles) (joined walls obstacles) x0 y0
  solid_view made = grind (arith, view_either)

  pub turned_is_streamed : MadeCells → CellsStep → CellsWalled → (near : ℕ → ℕ → Bool) → p < 2 → IsView p near particles x0 y0 → (x y : ℕ) → x < 64 → y < 64 →
      turned_window p near (either near_walls near_obstacles) x y ≡ plane.has (streamed p particles (joined walls obstacles)) (x0 + x) (y0 + y)
  turned_is_streamed made step walled near small view x y in_row in_column =
      turned_same step walled p near (either near_walls near_obstacles) particles (joined walls obstacles) x0 y0 x y small place.even_sides place.of_walls.wide place.of_walls.high view (solid_view made) place.even_column place.even_row in_row in_column (omega (arith, place.right)) (omega (arith, place.bottom))

-- by the laws of gas_terms
pub tiles_turned : (p : ℕ) (particles walls obstacles : Cells) (x0 y0 : ℕ) (near near_walls near_obstacles : ℕ → ℕ → Bool) → p < 2 → IsTilePlace particles walls obstacles x0 y0 →
    IsView p near particles x0 y0 → IsView p near_walls walls x0 y0 → IsView p near_obstacles obstacles x0 y0 → (x y : ℕ) → x < 64 → y < 64 →
    turned_window p near (either near_walls near_obstacles) x y ≡ plane.has (streamed p particles (joined walls obstacles)) (x0 + x) (y0 + y)
tiles_turned p particles walls obstacles x0 y0 near near_walls near_obstacles small place near_view walls_view obstacles_view =
    turned_is_streamed p particles walls obstacles x0 y0 near_walls near_obstacles place walls_view obstacles_view has-cells_where cell_streamed cell_walled near small near_view

-- the same with one set
pub set_turned : (p : ℕ) (particles solid : Cells) (x0 y0 : ℕ) (near near_solid : ℕ → ℕ → Bool) → p < 2 → IsTilePlace particles solid solid x0 y0 → IsView p near particles x0 y0 → IsView p near_solid solid x0 y0 →
    (x y : ℕ) → x < 64 → y < 64 → turned_window p near near_solid x y ≡ plane.has (streamed p particles solid) (x0 + x) (y0 + y)
set_turned p particles solid x0 y0 near near_solid small place view solid_view x y in_row in_column =
    turned_same cell_streamed cell_walled p near near_solid particles solid x0 y0 x y small place.even_sides place.of_walls.wide place.of_walls.high view solid_view place.even_column place.even_row in_row in_column (omega (arith, place.right)) (omega (arith, place.bottom))

-- what a tile sees
pub window_is_view : (p : ℕ) (window : ℕ → ℕ → Bool) (cells : Cells) (x0 y0 : ℕ) → p < 2 → IsWindow window cells x0 y0 → IsView p window cells x0 y0
window_is_view p window cells x0 y0 small is = grind arith

place_inside : (w from i : ℕ) → 1 ≤ i → i ≤ 64 → from + 64 ≤ w → from + (i - 1) ≡ (from + i + w - 1) % w
place_inside w from i low high within = grind (arith, wraps)

pub inside_is_view : (t : Tile) (b : Border) (cells : Cells) (x0 y0 : ℕ) → x0 + 64 ≤ cells.width → y0 + 64 ≤ cells.height → HasCells t (λ x y. plane.has cells (x0 + x) (y0 + y)) → IsView 0 (around t b) cells x0 y0
inside_is_view t b cells x0 y0 right bottom is = grind (arith, place_inside)
