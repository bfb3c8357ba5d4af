-- The cells of a rectangle are counted tile by tile.
use Rattle.std.proofs.Common.{◌≡◌, ℕ, zero, suc, ◌+◌, ◌-◌, ◌*◌, ◌/◌, ◌%◌, ◌<◌, ◌≤◌, ◌==◌, ◌&&◌, Bool, true, false, cond, refl, sym, ◌∙◌, ap, ap₂, arith, add-one, add_assoc, mul_comm}
use Rattle.std.proofs.Math.Nat.{mod-lt, add-mul}
use Rattle.std.proofs.lemmas.Nat.{row-Below, mul-le, mod-mul-add, div-mul-add}
use Rattle.std.proofs.lemmas.Bool.{cases_lt}
use Rattle.std.proofs.lemmas.Bool.Decides.{nat_tests}
use Rattle.bit_tile.specs.Tile as tile
use Rattle.bit_tile.specs.Tile.{count_cells}
use Rattle.bit_tile.specs.Sums as bits
use Rattle.bit_tile.specs.declared.Tile.{Tile}
use Rattle.gas_terms.specs.Cells.{Cells, Rectangle, has, is_inside, extent, lies_within, tile_count}
use Rattle.gas_terms.specs.Accounts.{parity_count}
use Rattle.gas_terms.proofs.FiniteSums.{sum_below, sum_below-cong, sum_below-none, cell_sum, cell_sum-cong, cell_sum_by_tile, sum_below_within}
use Rattle.gas_terms.proofs.ListSums.{sum_by-range}
use Rattle.gas_terms.proofs.RectangleTotals.{parity_count_is}
use Rattle.gas_plane.specs.Planes.{IsLattice, IsTileFrom, tile_of}
use Rattle.gas_plane.proofs.Places.{IsWholeTiles, wide, high, cell_below}
use Rattle.gas_plane.proofs.Sweeps.{left_of, top_of, tile_column}
use Rattle.gas_terms.proofs.ProbeTotals.{right_inside, bottom_inside}

-- 1 for a cell of the rectangle with these parities
abbrev pub counted : Cells → Rectangle → ℕ → ℕ → ℕ → ℕ → ℕ
counted cells r a b x y = cond (has cells x y && is_inside r x y && (x % 2 == a) && (y % 2 == b)) 1 0

-- how many of them tile i has
abbrev pub tile_counted : Cells → Rectangle → ℕ → ℕ → ℕ → ℕ
tile_counted cells r a b i = cell_sum 64 64 (λ x y. counted cells r a b (left_of cells i + x) (top_of cells i + y))

-- a cell outside counts nothing
outside : (there inside p q : Bool) → inside ≡ false → ◌≡◌ {A = ℕ} (cond (there && inside && p && q) 1 0) 0
outside true inside p q e = rw e
outside false inside p q e = refl

inside_counts : (there inside p q : Bool) → inside ≡ true → ◌≡◌ {A = ℕ} (cond (there && inside && p && q) 1 0) (cond (there && p && q) 1 0)
inside_counts true inside p q e = rw e
inside_counts false inside p q e = refl

left : (r : Rectangle) (x y : ℕ) → x < r.x → is_inside r x y ≡ false
left r x y h = grind (arith, nat_tests)

right : (r : Rectangle) (x y : ℕ) → r.x + r.w ≤ x → is_inside r x y ≡ false
right r x y h = grind (arith, nat_tests)

above : (r : Rectangle) (x y : ℕ) → y < r.y → is_inside r x y ≡ false
above r x y h = grind (arith, nat_tests)

below : (r : Rectangle) (x y : ℕ) → r.y + r.h ≤ y → is_inside r x y ≡ false
below r x y h = grind (arith, nat_tests)

within_it : (r : Rectangle) (i j : ℕ) → i < r.w → j < r.h → is_inside r (r.x + i) (r.y + j) ≡ true
within_it r i j p q = grind (arith, nat_tests)

-- the rectangle's count is one over all cells
counted_over_cells : (cells : Cells) (r : Rectangle) (a b : ℕ) → lies_within (extent cells) r ≡ true → cell_sum cells.width cells.height (counted cells r a b) ≡ parity_count cells r a b
counted_over_cells cells r a b fits =
    let w : ℕ = cells.width in
    let inner : ℕ → ℕ → ℕ = λ i j. cond (has cells (r.x + i) (r.y + j) && ((r.x + i) % 2 == a) && ((r.y + j) % 2 == b)) 1 0 in
    let none : (x y : ℕ) → is_inside r x y ≡ false → counted cells r a b x y ≡ 0 = λ x y e. outside (has cells x y) (is_inside r x y) (x % 2 == a) (y % 2 == b) e in
    let blank : (y : ℕ) → ((x : ℕ) → is_inside r x y ≡ false) → sum_below w (λ x. counted cells r a b x y) ≡ 0 =
    λ y e. (sum_below-cong w (λ x. counted cells r a b x y) (λ x. 0) (λ x _. none x y (e x)) ∙ sum_below-none w) in
    let row : (j : ℕ) → j < r.h → sum_below w (λ x. counted cells r a b x (r.y + j)) ≡ sum_below r.w (λ i. inner i j) =
    λ j q. sum_below_within r.x r.w w (λ x. counted cells r a b x (r.y + j)) (λ i. inner i j) (right_inside cells.width cells.height r fits)
    (λ x h. none x (r.y + j) (left r x (r.y + j) h))
    (λ i p. inside_counts (has cells (r.x + i) (r.y + j)) (is_inside r (r.x + i) (r.y + j)) ((r.x + i) % 2 == a) ((r.y + j) % 2 == b) (within_it r i j p q))
    (λ x h. none x (r.y + j) (right r x (r.y + j) h)) in
    sum_below_within r.y r.h cells.height (λ y. sum_below w (λ x. counted cells r a b x y)) (λ j. sum_below r.w (λ i. inner i j)) (bottom_inside cells.width cells.height r fits)
    (λ y h. blank y (λ x. above r x y h))
    row
    (λ y h. blank y (λ x. below r x y h))
    ∙ sym (parity_count_is cells r a b)

counted_over_tiles : (cells : Cells) (r : Rectangle) (a b : ℕ) → IsWholeTiles cells.width → IsWholeTiles cells.height → cell_sum cells.width cells.height (counted cells r a b) ≡ sum_below (cells.height / 64 * (cells.width / 64)) (tile_counted cells r a b)
counted_over_tiles cells r a b is_wide is_high = grind (arith, cell_sum, cell_sum_by_tile)

-- terms of zero at the end of a sum
sum_below-tail : (m k : ℕ) (f : ℕ → ℕ) → ((t : ℕ) → m ≤ t → t < m + k → f t ≡ 0) → sum_below (m + k) f ≡ sum_below m f
sum_below-tail m zero f none = ap (λ n. sum_below n f) (let e : m + 0 ≡ m = omega arith in e)
sum_below-tail m (suc k) f none =
    let e : m + suc k ≡ suc (m + k) = omega arith in
    ap (λ n. sum_below n f) e ∙ omega (arith, sum_below-tail m k f (λ t p q. none t p (omega arith)), none (m + k) (omega arith) (omega arith))

blank_tile : (cells : Cells) (r : Rectangle) (a b i : ℕ) → ((x y : ℕ) → x < 64 → y < 64 → is_inside r (left_of cells i + x) (top_of cells i + y) ≡ false) → tile_counted cells r a b i ≡ 0
blank_tile cells r a b i none =
    cell_sum-cong 64 64 (λ x y. counted cells r a b (left_of cells i + x) (top_of cells i + y)) (λ x y. 0)
    (λ x y p q. outside (has cells (left_of cells i + x) (top_of cells i + y)) (is_inside r (left_of cells i + x) (top_of cells i + y)) ((left_of cells i + x) % 2 == a) ((top_of cells i + y) % 2 == b) (none x y p q))
    ∙ (sum_below-cong 64 (λ y. sum_below 64 (λ x. 0)) (λ y. 0) (λ y _. sum_below-none 64) ∙ sum_below-none 64)

-- before the first tile there is nothing to count
pub counts_start : (cells : Cells) (r : Rectangle) (a b first : ℕ) → IsLattice cells → ((x y : ℕ) → tile_of cells x y < first → is_inside r x y ≡ false) → sum_below first (tile_counted cells r a b) ≡ 0
counts_start cells r a b first is none =
    sum_below-cong first (tile_counted cells r a b) (λ t. 0)
    (λ t h.
    blank_tile cells r a b t
    (λ x y p q. none (left_of cells t + x) (top_of cells t + y) (let e : tile_of cells (left_of cells t + x) (top_of cells t + y) ≡ t = tile_column (cells.width / 64) t x y (wide (extent cells) is.sized).some p q in omega arith)))
    ∙ sum_below-none first

-- nor is there from the end on
pub counts_end : (cells : Cells) (r : Rectangle) (a b i end : ℕ) → IsLattice cells → lies_within (extent cells) r ≡ true → end ≤ i → i ≤ tile_count cells → ((x y : ℕ) → x < cells.width → y < cells.height → end ≤ tile_of cells x y → is_inside r x y ≡ false) → sum_below i (tile_counted cells r a b) ≡ parity_count cells r a b
counts_end cells r a b i end is fits past reach none =
    let across = wide (extent cells) is.sized in
    let down = high (extent cells) is.sized in
    let all : ℕ = cells.height / 64 * (cells.width / 64) in
    let turned : tile_count cells ≡ all = mul_comm (cells.width / 64) (cells.height / 64) in
    let parts : i + (all - i) ≡ all = omega arith in
    sym
    (sym (counted_over_cells cells r a b fits)
    ∙ (counted_over_tiles cells r a b across down
    ∙ (ap (λ n. sum_below n (tile_counted cells r a b)) (sym parts)
    ∙ sum_below-tail i (all - i) (tile_counted cells r a b)
    (λ t low high.
    blank_tile cells r a b t
    (λ x y p q.
    let within : t < tile_count cells = omega arith in
    let place : tile_of cells (left_of cells t + x) (top_of cells t + y) ≡ t = tile_column (cells.width / 64) t x y across.some p q in
    let column : t % (cells.width / 64) < cells.width / 64 = mod-lt t across.some in
    let row : t / (cells.width / 64) < cells.height / 64 = (row-Below t (cells.width / 64) (cells.width / 64) (cells.height / 64) within (omega arith)).1 in
    none (left_of cells t + x) (top_of cells t + y) (cell_below cells.width (t % (cells.width / 64)) x across column p) (cell_below cells.height (t / (cells.width / 64)) y down row q) (omega arith))))))

-- a count in a row, and a tile's, as sums over their cells
pub row_sum : (n : ℕ) (test : ℕ → Bool) → bits.count_below n test ≡ sum_below n (λ x. cond (test x) 1 0)
unfolding bits.count_below
row_sum n test = sum_by-range (λ x. cond (test x) 1 0) n

pub tile_sum : (test : ℕ → ℕ → Bool) → count_cells test ≡ cell_sum 64 64 (λ x y. cond (test x y) 1 0)
unfolding bits.sum_below
tile_sum test = grind (arith, sum_by-range, sum_below-cong, sum_below, row_sum)

pub same_parity : (k x a : ℕ) → (x % 2 == a) ≡ ((k * 64 + x) % 2 == a)
same_parity k x a = ap (λ n. n == a) (let e : x % 2 ≡ (k * 64 + x) % 2 = omega arith in e)

class_counts_by : (cells : Cells) (r : Rectangle) (a b i : ℕ) (test : ℕ → ℕ → Bool) → ((x y : ℕ) → x < 64 → y < 64 → test x y ≡ (has cells (left_of cells i + x) (top_of cells i + y) && is_inside r (left_of cells i + x) (top_of cells i + y))) → count_cells (λ x y. test x y && x % 2 == a && y % 2 == b) ≡ tile_counted cells r a b i
class_counts_by cells r a b i test same =
    tile_sum (λ x y. test x y && x % 2 == a && y % 2 == b)
    ∙ cell_sum-cong 64 64 (λ x y. cond (test x y && x % 2 == a && y % 2 == b) 1 0) (λ x y. counted cells r a b (left_of cells i + x) (top_of cells i + y))
    (λ x y p q.
    ap (λ v. cond v 1 0)
    (ap₂ (λ u v. u && v)
    (ap₂ (λ u v. u && v) (same x y p q) (same_parity (i % (cells.width / 64)) x a))
    (same_parity (i / (cells.width / 64)) y b)))

pub counts_next : (f : ℕ → ℕ) (i count here next : ℕ) → count ≡ sum_below i f → here ≡ f i → next ≡ count + here → next ≡ sum_below (i + 1) f
counts_next f i count here next e h n = let s : sum_below (i + 1) f ≡ sum_below i f + f i = ap (λ n. sum_below n f) (add-one i) in omega arith

-- the tile in the column of a row of tiles
in_column : (n row column : ℕ) → column < n → (row * n + column) % n ≡ column
in_column n row column p = mod-mul-add row n column p

in_row : (n row column : ℕ) → column < n → (row * n + column) / n ≡ row
in_row n row column p = div-mul-add row n column p

inside_at : (r : Rectangle) (n row column x y : ℕ) → column < n → is_inside r ((row * n + column) % n * 64 + x) ((row * n + column) / n * 64 + y) ≡ is_inside r (column * 64 + x) (row * 64 + y)
inside_at r n row column x y p = ap₂ (λ c d. is_inside r (c * 64 + x) (d * 64 + y)) (in_column n row column p) (in_row n row column p)

pub tile_counts : (cells : Cells) (r : Rectangle) (a b row column across : ℕ) (t : Tile) → across ≡ cells.width / 64 → column < across → IsTileFrom t cells (left_of cells (row * across + column)) (top_of cells (row * across + column))
    → count_cells (λ x y. (tile.has t x y && is_inside r (column * 64 + x) (row * 64 + y)) && x % 2 == a && y % 2 == b) ≡ tile_counted cells r a b (row * across + column)
tile_counts cells r a b row column across t e less from =
    class_counts_by cells r a b (row * across + column) (λ x y. tile.has t x y && is_inside r (column * 64 + x) (row * 64 + y))
    (λ x y p q.
    let here : is_inside r ((row * across + column) % across * 64 + x) ((row * across + column) / across * 64 + y) ≡ is_inside r (left_of cells (row * across + column) + x) (top_of cells (row * across + column) + y) = ap (λ n. is_inside r ((row * across + column) % n * 64 + x) ((row * across + column) / n * 64 + y)) e in
    ap₂ (λ u v. u && v) (from.cell x y p q) (sym (inside_at r across row column x y less) ∙ here))

blank_in_row : (cells : Cells) (r : Rectangle) (a b row column : ℕ) → column < cells.width / 64 → ((x y : ℕ) → x < 64 → y < 64 → is_inside r (column * 64 + x) (row * 64 + y) ≡ false) → tile_counted cells r a b (row * (cells.width / 64) + column) ≡ 0
blank_in_row cells r a b row column less none =
    blank_tile cells r a b (row * (cells.width / 64) + column) (λ x y p q. inside_at r (cells.width / 64) row column x y less ∙ none x y p q)

-- columns of tiles that the rectangle does not meet count nothing
pub blank_columns : (cells : Cells) (r : Rectangle) (a b row column k : ℕ) → column + k ≤ cells.width / 64 → ((c x y : ℕ) → column ≤ c → c < column + k → x < 64 → is_inside r (c * 64 + x) y ≡ false)
    → sum_below (row * (cells.width / 64) + (column + k)) (tile_counted cells r a b) ≡ sum_below (row * (cells.width / 64) + column) (tile_counted cells r a b)
blank_columns cells r a b row column k fits none =
    ap (λ i. sum_below i (tile_counted cells r a b)) (sym (add_assoc (row * (cells.width / 64)) column k))
    ∙ sum_below-tail (row * (cells.width / 64) + column) k (tile_counted cells r a b)
    (λ t low high.
    let c : ℕ = t - row * (cells.width / 64) in
    let place : row * (cells.width / 64) + c ≡ t = omega arith in
    ap (tile_counted cells r a b) (sym place) ∙ blank_in_row cells r a b row c (omega arith) (λ x y p q. none c x (row * 64 + y) (omega arith) (omega arith) p))

pub row_begins : (cells : Cells) (r : Rectangle) (a b row left : ℕ) → left ≤ cells.width / 64 → ((x y : ℕ) → x / 64 < left → is_inside r x y ≡ false) → sum_below (row * (cells.width / 64)) (tile_counted cells r a b) ≡ sum_below (row * (cells.width / 64) + left) (tile_counted cells r a b)
row_begins cells r a b row left fits none =
    sym (ap (λ k. sum_below (row * (cells.width / 64) + k) (tile_counted cells r a b)) (let e : left ≡ 0 + left = omega arith in e)
    ∙ (blank_columns cells r a b row 0 left (omega arith) (λ c x y low high p. none (c * 64 + x) y (rw (div-mul-add c 64 x p) (omega arith)))
    ∙ ap (λ i. sum_below i (tile_counted cells r a b)) (let e : row * (cells.width / 64) + 0 ≡ row * (cells.width / 64) = omega arith in e)))

row_end : (n row : ℕ) → row * n + n ≡ (row + 1) * n
row_end n row = sym (add-mul row 1 n ∙ ap (λ m. row * n + m) (let e : 1 * n ≡ n = omega arith in e))

pub row_closes : (cells : Cells) (r : Rectangle) (a b row column : ℕ) → column ≤ cells.width / 64 → ((x y : ℕ) → x / 64 < cells.width / 64 → column ≤ x / 64 → is_inside r x y ≡ false) → sum_below (row * (cells.width / 64) + column) (tile_counted cells r a b) ≡ sum_below ((row + 1) * (cells.width / 64)) (tile_counted cells r a b)
row_closes cells r a b row column fits none =
    let all : column + (cells.width / 64 - column) ≡ cells.width / 64 = omega arith in
    sym (blank_columns cells r a b row column (cells.width / 64 - column) (omega arith) (λ c x y low high p. none (c * 64 + x) y (rw (div-mul-add c 64 x p) (omega arith)) (rw (div-mul-add c 64 x p) low)))
    ∙ (ap (λ k. sum_below (row * (cells.width / 64) + k) (tile_counted cells r a b)) all
    ∙ ap (λ i. sum_below i (tile_counted cells r a b)) (row_end (cells.width / 64) row))

pub small_row : (n row column count : ℕ) → column ≤ n → count ≤ 2048 * (row * n + column) → count ≤ 2048 * ((row + 1) * n)
small_row n row column count p h = omega (arith, row_end n row)

pub small_column : (n row left count : ℕ) → count ≤ 2048 * (row * n) → count ≤ 2048 * (row * n + left)
small_column n row left count h = omega arith

pub small_next : (i column count here next : ℕ) → next ≡ count + here → count ≤ 2048 * (i + column) → here ≤ 2048 → next ≤ 2048 * (i + (column + 1))
small_next i column count here next e h k = omega arith

-- the next tile of a row of tiles
pub count_more : (cells : Cells) (r : Rectangle) (a b row column across count here next : ℕ) → across ≡ cells.width / 64 → count ≡ sum_below (row * (cells.width / 64) + column) (tile_counted cells r a b) → here ≡ tile_counted cells r a b (row * across + column) → next ≡ count + here
    → next ≡ sum_below (row * (cells.width / 64) + (column + 1)) (tile_counted cells r a b)
count_more cells r a b row column across count here next e so_far counted_here sum =
    counts_next (tile_counted cells r a b) (row * (cells.width / 64) + column) count here next so_far (counted_here ∙ ap (λ n. tile_counted cells r a b (row * n + column)) e) sum
    ∙ ap (λ i. sum_below i (tile_counted cells r a b)) (add_assoc (row * (cells.width / 64)) column 1)

-- rows of tiles above and below the rectangle
pub above_rows : (cells : Cells) (first x y : ℕ) → tile_of cells x y < first * (cells.width / 64) → y / 64 < first
above_rows cells first x y h = grind (arith, cases_lt, mul-le)

pub below_rows : (cells : Cells) (last x y : ℕ) → x / 64 < cells.width / 64 → last * (cells.width / 64) ≤ tile_of cells x y → last ≤ y / 64
below_rows cells last x y p h = grind (arith, cases_lt, mul-le, add-mul)

-- the tiles of some rows, and of some columns of one more, are among the lattice's
pub rows_within : (cells : Cells) (row : ℕ) → row ≤ cells.height / 64 → row * (cells.width / 64) ≤ tile_count cells
rows_within cells row h = omega (arith, mul-le row (cells.width / 64) (cells.height / 64) (cells.width / 64) h (omega arith), mul_comm (cells.width / 64) (cells.height / 64))

-- a place in a list of four
pub class_place : (a b : ℕ) → a < 2 → b < 2 → 2 * b + a < 4
class_place a b p q = omega arith

pub few_tiles : (cells : Cells) (i : ℕ) → IsLattice cells → i ≤ tile_count cells → i ≤ 4096
few_tiles cells i is h = grind (arith, mul-le, wide, high)
