-- The cells of a row: their sums and their counts, and what is so after the row is replaced.
use Rattle.std.proofs.Common.{◌≡◌, ℕ, ◌+◌, ◌%◌, ◌<◌, ◌==◌, nat_lt, nat_le, Bool, true, false, ◌&&◌, cond, List, inl, inr, refl, sym, ap, ap₂, ◌∙◌, arith, ℤ}
use Rattle.std.proofs.lemmas.Bool.{cases_eq, eq-eqb, ne_eqb}
use Rattle.std.proofs.lemmas.Bool.Decides.{nat_tests}
use Rattle.gas_terms.specs.Cells.{Cells, Rectangle, has, is_inside, is_size, HasEvenSides, cells_where}
use Rattle.gas_terms.specs.Rows.{row_has, row_replaced}
use Rattle.gas_terms.specs.Accounts.{total, total_in, parity_count}
use Rattle.gas_terms.proofs.Cells.{has-cells_where, same_cells_where}
use Rattle.gas_terms.proofs.AccountBounds.{size-even}
use Rattle.gas_terms.proofs.FiniteSums.{sum_below, sum_below-cong, sum_below-append}
use Rattle.gas_terms.proofs.RectangleTotals.{parity_count_is}
use Rattle.gas_terms.proofs.ProbeTotals.{total_in-within}

-- the first w cells of row y
abbrev pub strip : ℕ → ℕ → Rectangle
strip y w = record { x = 0; y = y; w = w; h = 1 }

abbrev picked : Cells → ℕ → ℕ → ℕ → ℕ → ℕ
picked cells y a b x = cond (has cells (0 + x) (y + 0) && ((0 + x) % 2 == a) && ((y + 0) % 2 == b)) 1 0

pub strip_count : (cells : Cells) (y w a b : ℕ) → parity_count cells (strip y w) a b ≡ sum_below w (picked cells y a b)
strip_count cells y w a b = parity_count_is cells (strip y w) a b ∙ (let e : 0 + sum_below w (picked cells y a b) ≡ sum_below w (picked cells y a b) = omega arith in e)

-- n cells more
pub strip_more : (cells : Cells) (y w n a b : ℕ) → parity_count cells (strip y (w + n)) a b ≡ parity_count cells (strip y w) a b + sum_below n (λ x. cond (has cells (w + x) y && ((w + x) % 2 == a) && (y % 2 == b)) 1 0)
strip_more cells y w n a b =
    let f : y + 0 ≡ y = omega arith in
    strip_count cells y (w + n) a b
    ∙ (sum_below-append w n (picked cells y a b)
    ∙ ap₂ (λ u v. u + v) (sym (strip_count cells y w a b))
    (sum_below-cong n (λ x. picked cells y a b (w + x)) (λ x. cond (has cells (w + x) y && ((w + x) % 2 == a) && (y % 2 == b)) 1 0)
    (λ x _. let e : 0 + (w + x) ≡ w + x = omega arith in ap₂ (λ u v. cond (has cells u v && (u % 2 == a) && (v % 2 == b)) 1 0) e f)))

-- a row is replaced, and the others stay
pub new_row : (cells : Cells) (row : ℕ) (bytes : List ℕ) (x : ℕ) → x < cells.width → row < cells.height → has (row_replaced cells row bytes) x row ≡ row_has bytes x
new_row cells row bytes x p q = grind (arith, has-cells_where, eq-eqb)

pub other_row : (cells : Cells) (row : ℕ) (bytes : List ℕ) (x y : ℕ) → x < cells.width → y < cells.height → (y ≡ row → ⊥) → has (row_replaced cells row bytes) x y ≡ has cells x y
other_row cells row bytes x y p q ne = grind (arith, has-cells_where, ne_eqb)

-- a cell of the row is in its rectangle
in_row : (w y x y' : ℕ) → x < w → y' ≡ y → (nat_le 0 x && nat_lt x (0 + w) && nat_le y y' && nat_lt y' (y + 1)) ≡ true
in_row w y x y' p e = grind (arith, nat_tests)

and_true : (b c : Bool) → c ≡ true → (b && c) ≡ b
and_true b c h3 = grind arith

neither : (b c : Bool) → b ≡ false → (b && c) ≡ b
neither b c e = rw e refl

row_fits : (w h y : ℕ) → 0 < w → y < h → (nat_lt 0 w && nat_lt 0 1 && nat_le (0 + w) w && nat_le (y + 1) h) ≡ true
row_fits w h y p q = grind (arith, nat_tests)

size-some : (w h : ℕ) → is_size (record { width = w; height = h }) ≡ true → 0 < w
size-some w h size = grind (arith, nat_tests)

-- a set that has no cells outside a row
pub row_alone : (tick : ℤ) (w h y : ℕ) (f : ℕ → ℕ → Bool) → is_size (record { width = w; height = h }) ≡ true → y < h → ((i j : ℕ) → i < w → j < h → (j ≡ y → ⊥) → f i j ≡ false)
    → total_in tick (cells_where w h f) (strip y w) ≡ total tick (cells_where w h f)
row_alone tick w h y f size below alone =
    let even : HasEvenSides w h = size-even (record { width = w; height = h }) size in
    let cells : Cells = cells_where w h f in
    let some : 0 < w = size-some w h size in
    total_in-within tick cells (strip y w) even (row_fits w h y some below)
    ∙ ap (total tick)
    (same_cells_where w h (λ i j. has cells i j && is_inside (strip y w) i j) f
    (λ i j p q.
    elim (cases_eq j y) [
      | inl e ↦ and_true (has cells i j) (is_inside (strip y w) i j) (in_row w y i j p e) ∙ has-cells_where w h f i j p q
      | inr ne ↦ neither (has cells i j) (is_inside (strip y w) i j) (has-cells_where w h f i j p q ∙ alone i j p q ne) ∙ has-cells_where w h f i j p q
    ]))
