-- What a tile takes, on the torus.
use Rattle.std.proofs.Common.{◌≡◌, ℕ, zero, suc, ◌+◌, ◌*◌, ◌%◌, ◌<◌, ◌==◌, Bool, true, false, not, ◌&&◌, ◌||◌, sym, ◌∙◌, ap, ap₂, arith}
use Rattle.std.specs.Prelude.{pos, ◌-ℤ◌, ◌*ℤ◌, ℤ}
use Rattle.std.proofs.lemmas.Int.{ints}
use Rattle.bit_tile.specs.Sums.{sum_below, count_below}
use Rattle.bit_tile.specs.Tile.{has, HasCells}
use Rattle.bit_tile.specs.declared.Tile.{Tile}
use Rattle.bit_tile.proofs.Counts.{cells_same, class}
use Rattle.gas_terms.specs.Velocity.{parity, sign}
use Rattle.gas_terms.specs.Cells.{Cells, Rectangle, joined}
use Rattle.gas_terms.specs.Cells as plane
use Rattle.gas_terms.specs.Gas.{Site, site_of, is_walled, takes_for_walls, takes_for_obstacles}
use Rattle.gas_terms.specs.Accounts.{total_in, parity_count, sums_by_parity, stopped}
use Rattle.gas_terms.specs.Accounts as torus
use Rattle.gas_terms.specs.declared.accounts.Pair.{Pair}
use Rattle.gas_terms.proofs.Cells.{has-cells_where}
use Rattle.gas_terms.proofs.Blocks.{cell_walled}
use Rattle.gas_terms.proofs.RectangleTotals.{total_in-parities}
use Rattle.block_rule.specs.Around.{either, none, is_walled_at, is_for_walls, twice_momentum_in, taken_in_tile}
use Rattle.block_rule.specs.Windows.{IsView, IsTilePlace, square, taken_in}
use Rattle.block_rule.proofs.Blank.{walled_either}
use Rattle.block_rule.proofs.Took.{pair_same, accounts_same, twice_momentum_in-same, twice_momentum_in-none, right_count, left_count, down_count, up_count}
use Rattle.block_rule.proofs.Torus.{MadeCells, CellsWalled, walled_same, solid_view}
use Rattle.std.proofs.lemmas.Bool.{and_right}
use Rattle.gas_terms.proofs.Parity.{parity-small}

abbrev pub SumsByParities : Type 0
SumsByParities =
    (tick : ℤ) (cells : Cells) (r : Rectangle) →
    total_in tick cells r ≡ sums_by_parity tick (parity_count cells r 0 0) (parity_count cells r 1 0) (parity_count cells r 0 1) (parity_count cells r 1 1)

remainder_same : (from x : ℕ) → from % 2 ≡ 0 → (from + x) % 2 ≡ x % 2
remainder_same from x even = omega arith

counts_same : (cells : Cells) (x0 y0 a b : ℕ) → x0 % 2 ≡ 0 → y0 % 2 ≡ 0 → parity_count cells (square x0 y0) a b ≡ class (λ x y. plane.has cells (x0 + x) (y0 + y)) a b
unfolding sum_below count_below
counts_same cells x0 y0 a b even_x even_y =
    cells_same (λ x y. plane.has cells (x0 + x) (y0 + y) && (x0 + x) % 2 == a && (y0 + y) % 2 == b) (λ x y. plane.has cells (x0 + x) (y0 + y) && x % 2 == a && y % 2 == b)
    (λ x y _ _. ap₂ (λ m n. plane.has cells (x0 + x) (y0 + y) && m == a && n == b) (remainder_same x0 x even_x) (remainder_same y0 y even_y))

-- twice a difference of counts, by the direction in which the even places go
difference_even : (a b c d : ℕ) → pos (2 * (a + c)) -ℤ pos (2 * (b + d)) ≡ pos 2 *ℤ (sign true *ℤ (pos (a + c) -ℤ pos (b + d)))
difference_even a b c d = omega (arith, ints)

difference_odd : (a b c d : ℕ) → pos (2 * (b + d)) -ℤ pos (2 * (a + c)) ≡ pos 2 *ℤ (sign false *ℤ (pos (a + c) -ℤ pos (b + d)))
difference_odd a b c d = omega (arith, ints)

-- the momentum of the cells by their classes
abbrev by_classes : (p a b c d : ℕ) → Pair
by_classes p a b c d =
    record {
      x = pos 2 *ℤ (sign (p == 0) *ℤ (pos (a + c) -ℤ pos (b + d)));
      y = pos 2 *ℤ (sign (p == 0) *ℤ (pos (a + b) -ℤ pos (c + d)));
    }

momentum_by_classes : (cells : ℕ → ℕ → Bool) (p : ℕ) → p < 2 → twice_momentum_in p cells ≡ by_classes p (class cells 0 0) (class cells 1 0) (class cells 0 1) (class cells 1 1)
momentum_by_classes cells zero small =
    pair_same _ _ _ _
    (ap₂ (λ m n. pos (2 * m) -ℤ pos (2 * n)) (right_count cells 0 small) (left_count cells 0 small)
    ∙ difference_even (class cells 0 0) (class cells 1 0) (class cells 0 1) (class cells 1 1))
    (ap₂ (λ m n. pos (2 * m) -ℤ pos (2 * n)) (down_count cells 0 small) (up_count cells 0 small)
    ∙ difference_even (class cells 0 0) (class cells 0 1) (class cells 1 0) (class cells 1 1))
momentum_by_classes cells (suc zero) small =
    pair_same _ _ _ _
    (ap₂ (λ m n. pos (2 * m) -ℤ pos (2 * n)) (right_count cells 1 small) (left_count cells 1 small)
    ∙ difference_odd (class cells 0 0) (class cells 1 0) (class cells 0 1) (class cells 1 1))
    (ap₂ (λ m n. pos (2 * m) -ℤ pos (2 * n)) (down_count cells 1 small) (up_count cells 1 small)
    ∙ difference_odd (class cells 0 0) (class cells 0 1) (class cells 1 0) (class cells 1 1))
momentum_by_classes cells (suc (suc p)) small = absurd (omega arith)

-- the momentum of a square's cells, as a tile and on the torus
momentum_same : SumsByParities → (tick : ℤ) (cells : Cells) (x0 y0 : ℕ) → x0 % 2 ≡ 0 → y0 % 2 ≡ 0 →
    twice_momentum_in (parity tick) (λ x y. plane.has cells (x0 + x) (y0 + y)) ≡ torus.twice_momentum (total_in tick cells (square x0 y0))
momentum_same sums tick cells x0 y0 even_x even_y =
    let here : ℕ → ℕ → Bool = λ x y. plane.has cells (x0 + x) (y0 + y) in
    let count : (a b : ℕ) → class here a b ≡ parity_count cells (square x0 y0) a b = λ a b. sym (counts_same cells x0 y0 a b even_x even_y) in
    momentum_by_classes here (parity tick) (parity-small tick)
    ∙ ap₂ (λ a b. by_classes (parity tick) a b (class here 0 1) (class here 1 1)) (count 0 0) (count 1 0)
    ∙ ap₂ (λ c d. by_classes (parity tick) (parity_count cells (square x0 y0) 0 0) (parity_count cells (square x0 y0) 1 0) c d) (count 0 1) (count 1 1)
    ∙ sym (ap torus.twice_momentum (sums tick cells (square x0 y0)))

regroup : (t w o : Bool) → (t && w && not o) ≡ (t && (w && not o))
regroup t w o = grind arith

-- whether a tile's block takes for walls or obstacles is whether its site does
for_walls : (w o : Bool) (a b : Bool) → a ≡ (w || o) → b ≡ o → (w && not o) ≡ (a && not b)
for_walls w o a b aw bo = grind arith

for_obstacles : (w o : Bool) (a b : Bool) → a ≡ (w || o) → b ≡ o → o ≡ (a && b)
for_obstacles w o a b aw bo = grind arith

module _ (made : MadeCells) (walled : CellsWalled) (p : ℕ) (two : p < 2) (particles walls obstacles : Cells) (x0 y0 : ℕ) (near_walls near_obstacles : ℕ → ℕ → Bool) (place : IsTilePlace particles walls obstacles x0 y0) (walls_view : IsView p near_walls walls x0 y0) (obstacles_view : IsView p near_obstacles obstacles x0 y0) (x y : ℕ) (in_row : x < 64) (in_column : y < 64) where
  abbrev site : Site
  site = site_of p particles.width particles.height (x0 + x) (y0 + y)

  solid_same : is_walled (joined walls obstacles) site ≡ (is_walled_at p near_walls x y || is_walled_at p near_obstacles x y)
  solid_same =
      sym (walled_same walled p (either near_walls near_obstacles) (joined walls obstacles) particles.width particles.height x0 y0 x y two place.of_walls.wide place.of_walls.high (solid_view p particles walls obstacles x0 y0 near_walls near_obstacles place walls_view obstacles_view made) place.even_column place.even_row in_row in_column (omega (arith, place.right)) (omega (arith, place.bottom)))
      ∙ walled_either p near_walls near_obstacles x y

  obstructed_same : is_walled obstacles site ≡ is_walled_at p near_obstacles x y
  obstructed_same = grind (arith, walled_same)

  pub walls_take : is_for_walls p near_walls near_obstacles x y ≡ takes_for_walls walls obstacles site
  walls_take = for_walls (is_walled_at p near_walls x y) (is_walled_at p near_obstacles x y) _ _ solid_same obstructed_same

  pub obstacles_take : is_walled_at p near_obstacles x y ≡ takes_for_obstacles walls obstacles site
  obstacles_take = for_obstacles (is_walled_at p near_walls x y) (is_walled_at p near_obstacles x y) _ _ solid_same obstructed_same

module _ (made : MadeCells) (walled : CellsWalled) (sums : SumsByParities) (tick : ℤ) (tile : Tile) (particles walls obstacles : Cells) (x0 y0 : ℕ) (near_walls near_obstacles : ℕ → ℕ → Bool) (place : IsTilePlace particles walls obstacles x0 y0) (is_tile : HasCells tile (λ x y. plane.has particles (x0 + x) (y0 + y))) (walls_view : IsView (parity tick) near_walls walls x0 y0) (obstacles_view : IsView (parity tick) near_obstacles obstacles x0 y0) where
  in_width : (x : ℕ) → x < 64 → x0 + x < particles.width
  in_width x h = omega (arith, place.right)

  in_height : (y : ℕ) → y < 64 → y0 + y < particles.height
  in_height y h = omega (arith, place.bottom)

  made_same : (test : Site → Bool) (x y : ℕ) → x < 64 → y < 64 → plane.has (stopped (parity tick) particles test) (x0 + x) (y0 + y) ≡ (plane.has particles (x0 + x) (y0 + y) && test (site_of (parity tick) particles.width particles.height (x0 + x) (y0 + y)))
  made_same test x y in_row in_column = grind (arith, in_width, in_height)

  pub taken_is_taken_in : taken_in_tile (parity tick) tile near_walls near_obstacles ≡ taken_in tick particles walls obstacles (square x0 y0)
  taken_is_taken_in =
      accounts_same _ _ _ _
      (twice_momentum_in-same (parity tick) _ _ (λ x y in_row in_column.
      regroup (has tile x y) (is_walled_at (parity tick) near_walls x y) (is_walled_at (parity tick) near_obstacles x y)
      ∙ ap₂ (λ a b. a && b) (is_tile x y in_row in_column) (walls_take made walled (parity tick) (parity-small tick) particles walls obstacles x0 y0 near_walls near_obstacles place walls_view obstacles_view x y in_row in_column)
      ∙ sym (made_same (takes_for_walls walls obstacles) x y in_row in_column))
      ∙ momentum_same sums tick (stopped (parity tick) particles (takes_for_walls walls obstacles)) x0 y0 place.even_column place.even_row)
      (twice_momentum_in-same (parity tick) _ _ (λ x y in_row in_column.
      ap₂ (λ a b. a && b) (is_tile x y in_row in_column) (obstacles_take made walled (parity tick) (parity-small tick) particles walls obstacles x0 y0 near_walls near_obstacles place walls_view obstacles_view x y in_row in_column)
      ∙ sym (made_same (takes_for_obstacles walls obstacles) x y in_row in_column))
      ∙ momentum_same sums tick (stopped (parity tick) particles (takes_for_obstacles walls obstacles)) x0 y0 place.even_column place.even_row)

pub tiles_took : (tick : ℤ) (tile : Tile) (particles walls obstacles : Cells) (x0 y0 : ℕ) (near_walls near_obstacles : ℕ → ℕ → Bool) → IsTilePlace particles walls obstacles x0 y0 →
    HasCells tile (λ x y. plane.has particles (x0 + x) (y0 + y)) → IsView (parity tick) near_walls walls x0 y0 → IsView (parity tick) near_obstacles obstacles x0 y0 →
    taken_in_tile (parity tick) tile near_walls near_obstacles ≡ taken_in tick particles walls obstacles (square x0 y0)
tiles_took = taken_is_taken_in has-cells_where cell_walled total_in-parities

pub taken_of_none : (p : ℕ) (tile : Tile) → taken_in_tile p tile none none ≡ record { walls = record { x = pos 0; y = pos 0 }; obstacles = record { x = pos 0; y = pos 0 } }
taken_of_none p tile = grind (arith, accounts_same, twice_momentum_in-none, and_right)
