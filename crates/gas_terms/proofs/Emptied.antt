-- Sums where there is nothing, and what filling and clearing a rectangle brings in and takes out.
use Rattle.std.proofs.Common.{◌≡◌, ℕ, ◌+◌, ◌%◌, ◌<◌, Bool, true, false, ◌&&◌, ◌||◌, not, cond, ◌==◌, ℤ, refl, sym, ap, ap₂, ◌∙◌, arith}
use Rattle.std.proofs.lemmas.Int.{ints}
use Rattle.gas_terms.specs.Cells.{Cells, Rectangle, has, is_inside, lies_within, extent, whole, within, without, filled, cleared, HasEvenSides}
use Rattle.gas_terms.specs.Accounts.{total, total_in, gained, lost, nothing, plus, minus, parity_count, sums_by_parity}
use Rattle.gas_terms.specs.declared.accounts.Sums.{Sums}
use Rattle.gas_terms.proofs.Cells.{has-cells_where, same_cells_where}
use Rattle.gas_terms.proofs.FiniteSums.{cell_sum-cong, sum_below, sum_below-cong, sum_below-none}
use Rattle.gas_terms.proofs.RectangleTotals.{parity_count_is, total_in-parities, total-whole}
use Rattle.gas_terms.proofs.ProbeTotals.{total_in-within}
use Rattle.gas_terms.proofs.ChangeTotals.{total-change}
use Rattle.gas_terms.proofs.Totals.{same_sums}
use Rattle.gas_terms.proofs.TotalBounds.{same_counts}

none_picked : (there p q : Bool) → there ≡ false → ◌≡◌ {A = ℕ} (cond (there && p && q) 1 0) 0
none_picked there p q e = rw e refl

-- where there are no cells, none are counted
pub parity_count-none : (cells : Cells) (r : Rectangle) (a b : ℕ) → ((i j : ℕ) → i < r.w → j < r.h → has cells (r.x + i) (r.y + j) ≡ false) → parity_count cells r a b ≡ 0
parity_count-none cells r a b none =
    parity_count_is cells r a b
    ∙ (cell_sum-cong r.w r.h (λ i j. cond (has cells (r.x + i) (r.y + j) && ((r.x + i) % 2 == a) && ((r.y + j) % 2 == b)) 1 0) (λ i j. 0)
    (λ i j p q. none_picked (has cells (r.x + i) (r.y + j)) ((r.x + i) % 2 == a) ((r.y + j) % 2 == b) (none i j p q))
    ∙ (sum_below-cong r.h (λ j. sum_below r.w (λ i. 0)) (λ j. 0) (λ j _. sum_below-none r.w) ∙ sum_below-none r.h))

no_sums : (tick : ℤ) (a b c d : ℕ) → a ≡ 0 → b ≡ 0 → c ≡ 0 → d ≡ 0 → sums_by_parity tick a b c d ≡ nothing
no_sums tick a b c d e f g h = grind (arith, same_counts, same_sums)

-- no cells have no sums
pub total_in-none : (tick : ℤ) (cells : Cells) (r : Rectangle) → ((i j : ℕ) → i < r.w → j < r.h → has cells (r.x + i) (r.y + j) ≡ false) → total_in tick cells r ≡ nothing
total_in-none tick cells r none = grind (arith, parity_count-none, total_in-parities, no_sums)

pub total-none : (tick : ℤ) (cells : Cells) → HasEvenSides cells.width cells.height → ((x y : ℕ) → x < cells.width → y < cells.height → has cells x y ≡ false) → total tick cells ≡ nothing
total-none tick cells even none =
    total-whole tick cells even
    ∙ total_in-none tick cells (whole cells) (λ i j p q. ap₂ (has cells) (let e : 0 + i ≡ i = omega arith in e) (let e : 0 + j ≡ j = omega arith in e) ∙ none i j p q)

-- a set less one that has its cells has none
pub total-without : (tick : ℤ) (cells others : Cells) → HasEvenSides cells.width cells.height → ((x y : ℕ) → x < cells.width → y < cells.height → (has cells x y && not (has others x y)) ≡ false) → total tick (without cells others) ≡ nothing
total-without tick cells others even none =
    total-none tick (without cells others) even
    (λ x y p q. has-cells_where cells.width cells.height (λ x y. has cells x y && not (has others x y)) x y p q ∙ none x y p q)

pub not_both : (held : Bool) → (held && not held) ≡ false
not_both held = grind arith

-- the cells of a filled and of a cleared set
filled_cell : (cells : Cells) (r : Rectangle) (x y : ℕ) → x < cells.width → y < cells.height → has (filled cells r) x y ≡ (has cells x y || is_inside r x y)
filled_cell cells r x y p q = has-cells_where cells.width cells.height (λ x y. has cells x y || is_inside r x y) x y p q

cleared_cell : (cells : Cells) (r : Rectangle) (x y : ℕ) → x < cells.width → y < cells.height → has (cleared cells r) x y ≡ (has cells x y && not (is_inside r x y))
cleared_cell cells r x y p q = has-cells_where cells.width cells.height (λ x y. has cells x y && not (is_inside r x y)) x y p q

within_cell : (cells : Cells) (r : Rectangle) (x y : ℕ) → x < cells.width → y < cells.height → has (within cells r) x y ≡ (has cells x y && is_inside r x y)
within_cell cells r x y p q = has-cells_where cells.width cells.height (λ x y. has cells x y && is_inside r x y) x y p q

cut_out : (held inside : Bool) → (held && not (held && not inside)) ≡ (held && inside)
cut_out held inside = grind arith

cut_gains : (held inside : Bool) → ((held && not inside) && not held) ≡ false
cut_gains held inside = grind arith

fill_loses : (held inside : Bool) → (held && not (held || inside)) ≡ false
fill_loses held inside = grind arith

fill_loses_inside : (held inside : Bool) → ((held && inside) && not ((held || inside) && inside)) ≡ false
fill_loses_inside held inside = grind arith

fill_gains_inside : (held inside : Bool) → (((held || inside) && inside) && not (held && inside)) ≡ ((held || inside) && not held)
fill_gains_inside held inside = grind arith

-- Clearing a rectangle takes out what it held, and brings in nothing.
pub lost-cleared : (tick : ℤ) (cells : Cells) (r : Rectangle) → HasEvenSides cells.width cells.height → lies_within (extent cells) r ≡ true → lost tick cells (cleared cells r) ≡ total_in tick cells r
lost-cleared tick cells r even fits =
    ap (total tick)
    (same_cells_where cells.width cells.height (λ x y. has cells x y && not (has (cleared cells r) x y)) (λ x y. has cells x y && is_inside r x y)
    (λ x y p q. ap (λ b. has cells x y && not b) (cleared_cell cells r x y p q) ∙ cut_out (has cells x y) (is_inside r x y)))
    ∙ sym (total_in-within tick cells r even fits)

pub gained-cleared : (tick : ℤ) (cells : Cells) (r : Rectangle) → HasEvenSides cells.width cells.height → gained tick cells (cleared cells r) ≡ nothing
gained-cleared tick cells r even =
    total-without tick (cleared cells r) cells even
    (λ x y p q. ap (λ b. b && not (has cells x y)) (cleared_cell cells r x y p q) ∙ cut_gains (has cells x y) (is_inside r x y))

-- Filling a rectangle brings in what it holds then more than before, and takes out nothing.
pub lost-filled : (tick : ℤ) (cells : Cells) (r : Rectangle) → HasEvenSides cells.width cells.height → lost tick cells (filled cells r) ≡ nothing
lost-filled tick cells r even =
    total-without tick cells (filled cells r) even
    (λ x y p q. ap (λ b. has cells x y && not b) (filled_cell cells r x y p q) ∙ fill_loses (has cells x y) (is_inside r x y))

difference : (after before came : Sums) → after ≡ minus (plus before came) nothing → came ≡ minus after before
difference after before came e =
    same_sums came (minus after before)
    (omega (arith, ints, ap (λ (s : Sums). s.count) e))
    (omega (arith, ints, ap (λ (s : Sums). s.px) e))
    (omega (arith, ints, ap (λ (s : Sums). s.py) e))

pub gained-filled : (tick : ℤ) (cells : Cells) (r : Rectangle) → HasEvenSides cells.width cells.height → lies_within (extent cells) r ≡ true → gained tick cells (filled cells r) ≡ minus (total_in tick (filled cells r) r) (total_in tick cells r)
gained-filled tick cells r even fits =
    let old : Cells = within cells r in
    let new : Cells = within (filled cells r) r in
    let inside_new : (x y : ℕ) → x < cells.width → y < cells.height → has new x y ≡ ((has cells x y || is_inside r x y) && is_inside r x y) =
    λ x y p q. (within_cell (filled cells r) r x y p q ∙ ap (λ b. b && is_inside r x y) (filled_cell cells r x y p q)) in
    let went : total tick (without old new) ≡ nothing =
    total-without tick old new even
    (λ x y p q. ap₂ (λ a b. a && not b) (within_cell cells r x y p q) (inside_new x y p q) ∙ fill_loses_inside (has cells x y) (is_inside r x y)) in
    let came : total tick (without new old) ≡ gained tick cells (filled cells r) =
    ap (total tick)
    (same_cells_where cells.width cells.height (λ x y. has new x y && not (has old x y)) (λ x y. has (filled cells r) x y && not (has cells x y))
    (λ x y p q.
    ap₂ (λ a b. a && not b) (inside_new x y p q) (within_cell cells r x y p q)
    ∙ (fill_gains_inside (has cells x y) (is_inside r x y) ∙ sym (ap (λ b. b && not (has cells x y)) (filled_cell cells r x y p q))))) in
    let change : total tick new ≡ minus (plus (total tick old) (total tick (without new old))) nothing =
    total-change tick old new even (record { wide = refl; high = refl }) ∙ ap (minus (plus (total tick old) (total tick (without new old)))) went in
    sym came
    ∙ (difference (total tick new) (total tick old) (total tick (without new old)) change
    ∙ ap₂ minus (sym (total_in-within tick (filled cells r) r even fits)) (sym (total_in-within tick cells r even fits)))
