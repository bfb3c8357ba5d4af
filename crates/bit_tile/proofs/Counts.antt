-- Counts of a class.
use Rattle.std.proofs.Common.{◌≡◌, ℕ, ◌+◌, ◌*◌, ◌%◌, ◌^◌, ◌<◌, ◌==◌, Bool, true, false, not, inl, inr, ◌&&◌, if◌then◌else◌, zero, suc, List, [], ◌∷◌, get_or, bit_and, sym, ◌∙◌, ap, ap₂, arith}
use Rattle.std.proofs.lemmas.Bool.{cases_eq, eq-eqb, ne_eqb, and_right}
use Rattle.std.proofs.lemmas.Nat.{and_le_l}
use Rattle.bit_tile.specs.Bit.{bit}
use Rattle.bit_tile.specs.Sums.{sum_below, count_below}
use Rattle.bit_tile.proofs.Bits.{bits_cases, bit-and}
use Rattle.std.specs.Int.RustNames.{count_ones}
use Rattle.bit_tile.proofs.Sums.{ones_are_bits, count_below-parts, sum_below-zero, sum_below-suc, sum_below-more, sum_below-same, sum_below-bound, count_below-zero, count_below-suc, count_below-same, count_below-none}

-- a sum by pairs
halves : (n : ℕ) (f : ℕ → ℕ) → sum_below (2 * n) f ≡ sum_below n (λ k. f (2 * k) + f (2 * k + 1))
halves zero f = sum_below-zero f ∙ sym (sum_below-zero (λ k. f (2 * k) + f (2 * k + 1)))
halves (suc n) f =
    let e : 2 * suc n ≡ (2 * n + 1) + 1 = omega arith in
    let whole : sum_below (2 * suc n) f ≡ (sum_below (2 * n) f + f (2 * n)) + f (2 * n + 1) =
    ap (λ m. sum_below m f) e ∙ (sum_below-more (2 * n + 1) f ∙ ap (λ m. m + f (2 * n + 1)) (sum_below-more (2 * n) f)) in
    omega (arith, whole, halves n f, sum_below-suc n (λ k. f (2 * k) + f (2 * k + 1)))

count_as_sum : (n : ℕ) (p : ℕ → Bool) → count_below n p ≡ sum_below n (λ k. if p k then 1 else 0)
count_as_sum zero p = count_below-zero p ∙ sym (sum_below-zero (λ k. if p k then 1 else 0))
count_as_sum (suc n) p =
    count_below-suc n p
    ∙ (ap (λ m. m + (if p n then 1 else 0)) (count_as_sum n p) ∙ sym (sum_below-suc n (λ k. if p k then 1 else 0)))

abbrev pub one : Bool → ℕ
one b = if b then 1 else 0

-- of two neighbors, the one of the parity
one_of_two : (i k : ℕ) (test : ℕ → Bool) → i < 2 → one (test (2 * k) && 2 * k % 2 == i) + one (test (2 * k + 1) && (2 * k + 1) % 2 == i) ≡ one (test (2 * k + i))
one_of_two i k test two = grind (arith, bits_cases, eq-eqb, and_right, ne_eqb)

-- the columns of a parity
columns_of : (i : ℕ) (test : ℕ → Bool) → i < 2 → count_below 64 (λ x. test x && x % 2 == i) ≡ count_below 32 (λ m. test (2 * m + i))
columns_of i test two =
    count_as_sum 64 (λ x. test x && x % 2 == i)
    ∙ (halves 32 (λ x. one (test x && x % 2 == i))
    ∙ (sum_below-same 32 _ (λ k. one (test (2 * k + i))) (λ k _. one_of_two i k test two) ∙ sym (count_as_sum 32 (λ m. test (2 * m + i)))))

-- a row's cells in the columns of a parity, in its own class and in another
row_here : (test : ℕ → Bool) (i j y : ℕ) → y % 2 ≡ j → count_below 64 (λ x. test x && x % 2 == i && y % 2 == j) ≡ count_below 64 (λ x. test x && x % 2 == i)
row_here test i j y e = grind (arith, count_below-same, eq-eqb)

row_elsewhere : (test : ℕ → Bool) (i j y : ℕ) → (y % 2 ≡ j → ⊥) → count_below 64 (λ x. test x && x % 2 == i && y % 2 == j) ≡ 0
row_elsewhere test i j y e =
    count_below-same 64 (λ x. test x && x % 2 == i && y % 2 == j) (λ _. false)
    (λ x _. and_right (test x && x % 2 == i) (y % 2 == j) (ne_eqb (y % 2) j e))
    ∙ count_below-none 64

two_rows : (test : ℕ → ℕ → Bool) (i j k : ℕ) → i < 2 → j < 2 → count_below 64 (λ x. test x (2 * k) && x % 2 == i && 2 * k % 2 == j) + count_below 64 (λ x. test x (2 * k + 1) && x % 2 == i && (2 * k + 1) % 2 == j) ≡ count_below 32 (λ m. test (2 * m + i) (2 * k + j))
two_rows test i j k i_two j_two =
    bits_cases (λ j. count_below 64 (λ x. test x (2 * k) && x % 2 == i && 2 * k % 2 == j) + count_below 64 (λ x. test x (2 * k + 1) && x % 2 == i && (2 * k + 1) % 2 == j) ≡ count_below 32 (λ m. test (2 * m + i) (2 * k + j)))
    (let a = row_here (λ x. test x (2 * k)) i 0 (2 * k) (omega arith) ∙ columns_of i (λ x. test x (2 * k)) i_two in
    let b = row_elsewhere (λ x. test x (2 * k + 1)) i 0 (2 * k + 1) (λ e. omega arith) in
    let e : count_below 32 (λ m. test (2 * m + i) (2 * k)) ≡ count_below 32 (λ m. test (2 * m + i) (2 * k + 0)) = ap (λ y. count_below 32 (λ m. test (2 * m + i) y)) (omega arith) in
    ap₂ (λ u v. u + v) a b ∙ (let z : count_below 32 (λ m. test (2 * m + i) (2 * k)) + 0 ≡ count_below 32 (λ m. test (2 * m + i) (2 * k)) = omega arith in z) ∙ e)
    (let a = row_elsewhere (λ x. test x (2 * k)) i 1 (2 * k) (λ e. omega arith) in
    let b = row_here (λ x. test x (2 * k + 1)) i 1 (2 * k + 1) (omega arith) ∙ columns_of i (λ x. test x (2 * k + 1)) i_two in
    ap₂ (λ u v. u + v) a b ∙ (let z : 0 + count_below 32 (λ m. test (2 * m + i) (2 * k + 1)) ≡ count_below 32 (λ m. test (2 * m + i) (2 * k + 1)) = omega arith in z)) j j_two

-- a class's cells are counted in its rows
pub class_count : (test : ℕ → ℕ → Bool) (i j : ℕ) → i < 2 → j < 2 → sum_below 64 (λ y. count_below 64 (λ x. test x y && x % 2 == i && y % 2 == j)) ≡ sum_below 32 (λ k. count_below 32 (λ m. test (2 * m + i) (2 * k + j)))
class_count test i j i_two j_two =
    halves 32 (λ y. count_below 64 (λ x. test x y && x % 2 == i && y % 2 == j))
    ∙ sum_below-same 32 _ (λ k. count_below 32 (λ m. test (2 * m + i) (2 * k + j))) (λ k _. two_rows test i j k i_two j_two)

-- what is counted in a class's rows is counted in its cells
pub counted_of_class : (rows : ℕ → ℕ → Bool) (test : ℕ → ℕ → Bool) (i j n : ℕ) → i < 2 → j < 2 → n ≡ sum_below 32 (λ k. count_below 32 (λ m. rows m k)) → ((m k : ℕ) → m < 32 → k < 32 → rows m k ≡ test (2 * m + i) (2 * k + j)) → n ≡ sum_below 64 (λ y. count_below 64 (λ x. test x y && x % 2 == i && y % 2 == j))
counted_of_class rows test i j n i_two j_two counted is = grind (arith, sum_below-same, count_below-same, class_count)

-- the ones of a class's rows are its cells
pub ones_of_class : (rows : List ℕ) (test : ℕ → ℕ → Bool) (i j n : ℕ) → i < 2 → j < 2 → n ≡ sum_below 32 (λ k. count_below 32 (bit (get_or rows k 0))) → ((m k : ℕ) → m < 32 → k < 32 → bit (get_or rows k 0) m ≡ test (2 * m + i) (2 * k + j)) → n ≡ sum_below 64 (λ y. count_below 64 (λ x. test x y && x % 2 == i && y % 2 == j))
ones_of_class rows test i j n i_two j_two counted is = counted_of_class (λ m k. bit (get_or rows k 0) m) test i j n i_two j_two counted is

abbrev pub class : (ℕ → ℕ → Bool) → ℕ → ℕ → ℕ
class has i j = sum_below 64 (λ y. count_below 64 (λ x. has x y && x % 2 == i && y % 2 == j))

-- the counts of four classes, in a list
pub four_classes : (count : ℕ → ℕ → ℕ) (a b c d : ℕ) → a ≡ count 0 0 → b ≡ count 1 0 → c ≡ count 0 1 → d ≡ count 1 1 → (i j : ℕ) → i < 2 → j < 2 → get_or (a ∷ b ∷ c ∷ d ∷ []) (2 * j + i) 0 ≡ count i j
four_classes count a b c d first second third fourth i j i_two j_two = grind (arith, bits_cases)

-- two tests that agree at each cell count the same
pub cells_same : (p q : ℕ → ℕ → Bool) → ((x y : ℕ) → x < 64 → y < 64 → p x y ≡ q x y) → sum_below 64 (λ y. count_below 64 (λ x. p x y)) ≡ sum_below 64 (λ y. count_below 64 (λ x. q x y))
cells_same p q same = sum_below-same 64 _ _ (λ y in_column. count_below-same 64 _ _ (λ x in_row. same x y in_row in_column))

-- and two that agree count alike in each class
pub class_same : (f g : ℕ → ℕ → Bool) (i j : ℕ) → ((x y : ℕ) → x < 64 → y < 64 → f x y ≡ g x y) → class f i j ≡ class g i j
class_same f g i j same = cells_same _ _ (λ x y h k. ap (λ b. b && x % 2 == i && y % 2 == j) (same x y h k))

-- one, as either part
one_in_parts : (p r : Bool) → (if p then 1 else 0) ≡ (if p && r then 1 else 0) + (if p && not r then 1 else 0)
one_in_parts p r = grind arith

-- a count in two parts
count_below-split : (n : ℕ) (p r : ℕ → Bool) → count_below n p ≡ count_below n (λ k. p k && r k) + count_below n (λ k. p k && not (r k))
count_below-split zero p r = omega (arith, count_below-zero p, count_below-zero (λ k. p k && r k), count_below-zero (λ k. p k && not (r k)))
count_below-split (suc n) p r =
    omega (arith, count_below-suc n p, count_below-suc n (λ k. p k && r k), count_below-suc n (λ k. p k && not (r k)), count_below-split n p r, one_in_parts (p n) (r n))

sum_below-add : (n : ℕ) (f g : ℕ → ℕ) → sum_below n (λ k. f k + g k) ≡ sum_below n f + sum_below n g
sum_below-add zero f g = omega (arith, sum_below-zero f, sum_below-zero g, sum_below-zero (λ k. f k + g k))
sum_below-add (suc n) f g =
    omega (arith, sum_below-suc n f, sum_below-suc n g, sum_below-suc n (λ k. f k + g k), sum_below-add n f g)

part_first : (p a b : Bool) → ((true && a && b) && p) ≡ (p && a && b)
part_first p a b = grind arith

abbrev pub cells_counted : (ℕ → ℕ → Bool) → ℕ
cells_counted test = sum_below 64 (λ y. count_below 64 (λ x. test x y))

pub cells_counted-none : cells_counted (λ _ _. false) ≡ 0
cells_counted-none =
    let each = sum_below-bound 64 0 (λ y. count_below 64 (λ _. false)) (λ k _. omega (arith, count_below-none 64)) in
    omega arith

pub cells-split : (p r : ℕ → ℕ → Bool) → cells_counted p ≡ cells_counted (λ x y. p x y && r x y) + cells_counted (λ x y. p x y && not (r x y))
cells-split p r =
    sum_below-same 64 _ _ (λ y _. count_below-split 64 (λ x. p x y) (λ x. r x y))
    ∙ sum_below-add 64 (λ y. count_below 64 (λ x. p x y && r x y)) (λ y. count_below 64 (λ x. p x y && not (r x y)))

-- all pass
count_below-all : (n : ℕ) → count_below n (λ _. true) ≡ n
count_below-all zero = count_below-zero (λ _. true)
count_below-all (suc n) = omega (arith, count_below-suc n (λ _. true), count_below-all n)

sum_below-of : (n m : ℕ) → sum_below n (λ _. m) ≡ n * m
sum_below-of zero m = omega (arith, sum_below-zero (λ _. m))
sum_below-of (suc n) m = omega (arith, sum_below-suc n (λ _. m), sum_below-of n m)

-- a class has 1,024 cells: those of a set, and the others
pub whole_class : (has : ℕ → ℕ → Bool) (i j : ℕ) → i < 2 → j < 2 → class has i j + class (λ x y. not (has x y)) i j ≡ 1024
whole_class has i j i_two j_two =
    let all = class_count (λ _ _. true) i j i_two j_two ∙ (sum_below-same 32 _ (λ _. 32) (λ k _. count_below-all 32) ∙ sum_below-of 32 32) in
    let split = cells-split (λ x y. true && x % 2 == i && y % 2 == j) has in
    let own = cells_same (λ x y. (true && x % 2 == i && y % 2 == j) && has x y) (λ x y. has x y && x % 2 == i && y % 2 == j) (λ x y _ _. part_first (has x y) (x % 2 == i) (y % 2 == j)) in
    let rest = cells_same (λ x y. (true && x % 2 == i && y % 2 == j) && not (has x y)) (λ x y. not (has x y) && x % 2 == i && y % 2 == j) (λ x y _ _. part_first (not (has x y)) (x % 2 == i) (y % 2 == j)) in
    omega (arith, all, split, own, rest)

-- the cells in the columns of a parity are two classes, and so are those in the rows of a parity
not_one : (n : ℕ) → not (n % 2 == 0) ≡ (n % 2 == 1)
not_one n = elim (cases_eq (n % 2) 0) [ inl e ↦ rw e | inr ne ↦ let e : n % 2 ≡ 1 = omega arith in rw e ]

pub and_swapped : (a b c : Bool) → (a && b && c) ≡ (a && c && b)
and_swapped a b c = grind arith

pub in_columns : (has : ℕ → ℕ → Bool) (i : ℕ) → cells_counted (λ x y. has x y && x % 2 == i) ≡ class has i 0 + class has i 1
in_columns has i =
    cells-split (λ x y. has x y && x % 2 == i) (λ x y. y % 2 == 0)
    ∙ ap (λ n. class has i 0 + n) (cells_same _ _ (λ x y _ _. ap (λ b. has x y && x % 2 == i && b) (not_one y)))

pub in_rows : (has : ℕ → ℕ → Bool) (j : ℕ) → cells_counted (λ x y. has x y && y % 2 == j) ≡ class has 0 j + class has 1 j
in_rows has j =
    cells-split (λ x y. has x y && y % 2 == j) (λ x y. x % 2 == 0)
    ∙ (ap (λ n. n + cells_counted (λ x y. has x y && y % 2 == j && not (x % 2 == 0))) (cells_same _ _ (λ x y _ _. and_swapped (has x y) (y % 2 == j) (x % 2 == 0)))
    ∙ ap (λ n. class has 0 j + n)
    (cells_same _ _ (λ x y _ _. ap (λ b. has x y && y % 2 == j && b) (not_one x) ∙ and_swapped (has x y) (y % 2 == j) (x % 2 == 1))))

-- all cells, by their classes
pub in_classes : (has : ℕ → ℕ → Bool) (a b c d : ℕ) → a ≡ class has 0 0 → b ≡ class has 1 0 → c ≡ class has 0 1 → d ≡ class has 1 1 → a + b + c + d ≡ cells_counted has
in_classes has a b c d first second third fourth =
    let split = cells-split has (λ x y. x % 2 == 0) in
    let odd : cells_counted (λ x y. has x y && not (x % 2 == 0)) ≡ cells_counted (λ x y. has x y && x % 2 == 1) = cells_same _ _ (λ x y _ _. ap (λ b. has x y && b) (not_one x)) in
    omega (arith, split, odd, in_columns has 0, in_columns has 1, first, second, third, fourth)

-- two rows of a class in one word
pub ones_of_two : (w : ℕ) (first second : ℕ → Bool) → w < 2 ^ 64 → ((i : ℕ) → i < 32 → bit w i ≡ first i) → ((i : ℕ) → i < 32 → bit w (32 + i) ≡ second i) → count_ones w ≡ count_below 32 first + count_below 32 second
ones_of_two w first second fits low high =
    ones_are_bits w 64 fits
    ∙ (count_below-parts 32 32 (bit w)
    ∙ ap₂ (λ a b. a + b) (count_below-same 32 (bit w) first low) (count_below-same 32 (λ i. bit w (32 + i)) second high))

pub two_rows_more : (n j more : ℕ) (f : ℕ → ℕ) → n ≡ sum_below (2 * j) f → more ≡ f (2 * j) + f (2 * j + 1) → n + more ≡ sum_below (2 * (j + 1)) f
two_rows_more n j more f so_far here =
    let next : 2 * (j + 1) ≡ 2 * j + 1 + 1 = omega arith in
    rw next (omega (arith, so_far, here, sum_below-more (2 * j) f, sum_below-more (2 * j + 1) f))

-- the cells of a word in the columns that a mask has, and the classes of a row's cells
pub ones_in_columns : (w mask i : ℕ) → w < 2 ^ 64 → ((x : ℕ) → x < 64 → bit mask x ≡ (x % 2 == i)) → count_ones (bit_and w mask) ≡ count_below 64 (λ x. bit w x && x % 2 == i)
ones_in_columns w mask i fits is =
    let less : bit_and w mask < 2 ^ 64 = omega (arith, and_le_l w mask) in
    ones_are_bits (bit_and w mask) 64 less
    ∙ count_below-same 64 _ _ (λ x h. bit-and w mask x ∙ ap (λ b. bit w x && b) (is x h))

module _ (test : ℕ → Bool) (y even odd : ℕ) (is_even : even ≡ count_below 64 (λ x. test x && x % 2 == 0)) (is_odd : odd ≡ count_below 64 (λ x. test x && x % 2 == 1)) where
  pub even_row : y % 2 ≡ 0 → (i j : ℕ) → i < 2 → j < 2 → get_or (even ∷ odd ∷ 0 ∷ 0 ∷ []) (2 * j + i) 0 ≡ count_below 64 (λ x. test x && x % 2 == i && y % 2 == j)
  even_row e =
      four_classes (λ i j. count_below 64 (λ x. test x && x % 2 == i && y % 2 == j)) even odd 0 0 (is_even ∙ sym (row_here test 0 0 y e)) (is_odd ∙ sym (row_here test 1 0 y e))
      (sym (row_elsewhere test 0 1 y (λ h. omega arith))) (sym (row_elsewhere test 1 1 y (λ h. omega arith)))

  pub odd_row : y % 2 ≡ 1 → (i j : ℕ) → i < 2 → j < 2 → get_or (0 ∷ 0 ∷ even ∷ odd ∷ []) (2 * j + i) 0 ≡ count_below 64 (λ x. test x && x % 2 == i && y % 2 == j)
  odd_row e =
      four_classes (λ i j. count_below 64 (λ x. test x && x % 2 == i && y % 2 == j)) 0 0 even odd (sym (row_elsewhere test 0 0 y (λ h. omega arith))) (sym (row_elsewhere test 1 0 y (λ h. omega arith)))
      (is_even ∙ sym (row_here test 0 1 y e)) (is_odd ∙ sym (row_here test 1 1 y e))
