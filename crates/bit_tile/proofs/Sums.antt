-- Sums over the bits of a word, and how many are set.
use Rattle.std.proofs.Common.{◌≡◌, ℕ, zero, suc, ◌+◌, ◌*◌, ◌/◌, ◌%◌, ◌^◌, ◌<◌, ◌≤◌, Bool, false, if◌then◌else◌, [], ◌∷◌, ◌++◌, refl, sym, ◌∙◌, ap, arith, add-one, zero-add, add-zero, cond}
use Rattle.std.proofs.Math.Numerals.{one-add}
use Rattle.std.specs.List.{range_with_len, sum_by, count_by}
use Rattle.std.specs.Int.RustNames.{count_ones}
use Rattle.std.specs.Int.Count.{ones-ones}
use Rattle.std.proofs.lemmas.List.Sums.{sum_by_push}
use Rattle.std.proofs.lemmas.Nat.{ones_cat, shr_split, mod_below, pow_pos, shr_below}
use Rattle.bit_tile.specs.Bit.{bit}
use Rattle.bit_tile.specs.Sums.{sum_below, count_below}
use Rattle.bit_tile.proofs.Bits.{bit_of_low, bit_of_top}

-- the numbers below n + 1 are those below n, and n
pub range-suc : (a n : ℕ) → range_with_len a (suc n) ≡ range_with_len a n ++ (a + n) ∷ []
range-suc a zero = ap (λ m. m ∷ []) (sym (add-zero a))
range-suc a (suc n) =
    let e : (a + 1) + n ≡ a + suc n = omega arith in
    ap (λ s. a ∷ s) (range-suc (a + 1) n ∙ ap (λ m. range_with_len (a + 1) n ++ m ∷ []) e)

pub sum_below-zero : (f : ℕ → ℕ) → sum_below 0 f ≡ 0
unfolding sum_below
sum_below-zero f = refl

pub sum_below-suc : (n : ℕ) (f : ℕ → ℕ) → sum_below (suc n) f ≡ sum_below n f + f n
unfolding sum_below
sum_below-suc n f =
    ap (sum_by f) (range-suc 0 n)
    ∙ (sum_by_push f (range_with_len 0 n) (0 + n) ∙ ap (λ m. sum_by f (range_with_len 0 n) + f m) (zero-add n))

pub sum_below-more : (n : ℕ) (f : ℕ → ℕ) → sum_below (n + 1) f ≡ sum_below n f + f n
sum_below-more n f = rw add-one (sum_below-suc n f)

pub count_below-zero : (test : ℕ → Bool) → count_below 0 test ≡ 0
unfolding count_below
count_below-zero test = refl

pub count_below-suc : (n : ℕ) (test : ℕ → Bool) → count_below (suc n) test ≡ count_below n test + (if test n then 1 else 0)
unfolding count_below
count_below-suc n test =
    ap (count_by test) (range-suc 0 n)
    ∙ (sum_by_push (λ x. cond (test x) 1 0) (range_with_len 0 n) (0 + n) ∙ ap (λ m. count_by test (range_with_len 0 n) + (if test m then 1 else 0)) (zero-add n))

pub sum_below-same : (n : ℕ) (f g : ℕ → ℕ) → ((k : ℕ) → k < n → f k ≡ g k) → sum_below n f ≡ sum_below n g
sum_below-same zero f g same = sum_below-zero f ∙ sym (sum_below-zero g)
sum_below-same (suc n) f g same =
    let before = sum_below-same n f g (λ k h. same k (omega arith)) in
    let here = same n (omega arith) in
    let a = sum_below-suc n f in
    let b = sum_below-suc n g in
    omega arith

pub count_below-same : (n : ℕ) (p q : ℕ → Bool) → ((k : ℕ) → k < n → p k ≡ q k) → count_below n p ≡ count_below n q
count_below-same zero p q same = count_below-zero p ∙ sym (count_below-zero q)
count_below-same (suc n) p q same =
    let before = count_below-same n p q (λ k h. same k (omega arith)) in
    count_below-suc n p
    ∙ (ap (λ m. m + (if p n then 1 else 0)) before
    ∙ (ap (λ b. count_below n q + (if b then 1 else 0)) (same n (omega arith)) ∙ sym (count_below-suc n q)))

pub sum_below-bound : (n m : ℕ) (f : ℕ → ℕ) → ((k : ℕ) → k < n → f k ≤ m) → sum_below n f ≤ n * m
sum_below-bound zero m f each = omega (arith, sum_below-zero f)
sum_below-bound (suc n) m f each =
    omega (arith, sum_below-suc n f, each n (omega arith), sum_below-bound n m f (λ k h. each k (omega arith)))

-- the ones of a number are its bits that are 1
pub ones_are_bits : (n k : ℕ) → n < 2 ^ k → count_ones n ≡ count_below k (bit n)
ones_are_bits n zero fits = let e : n ≡ 0 = omega arith in rw e (ones-ones 0 ∙ sym (count_below-zero (bit 0)))
ones_are_bits n (suc k) fits =
    let top : n / 2 ^ k < 2 = shr_below n 1 k (rw one-add fits) in
    let low = ones_are_bits (n % 2 ^ k) k (mod_below n (2 ^ k) (pow_pos k)) ∙ count_below-same k _ _ (bit_of_low n k) in
    let parts = ones_cat k (n / 2 ^ k) (n % 2 ^ k) (mod_below n (2 ^ k) (pow_pos k)) in
    let whole = ap count_ones (shr_split n k) in
    let high = bit_of_top n k top in
    let both = count_below-suc k (bit n) in
    omega arith

-- no test passes
pub count_below-none : (n : ℕ) → count_below n (λ _. false) ≡ 0
count_below-none zero = count_below-zero (λ _. false)
count_below-none (suc n) = count_below-suc n (λ _. false) ∙ ap (λ m. m + 0) (count_below-none n)

-- a count in two parts
pub count_below-parts : (m n : ℕ) (test : ℕ → Bool) → count_below (m + n) test ≡ count_below m test + count_below n (λ i. test (m + i))
count_below-parts m zero test = ap (λ k. count_below k test) (omega arith) ∙ (let e : count_below m test ≡ count_below m test + 0 = omega arith in e ∙ ap (λ k. count_below m test + k) (sym (count_below-zero (λ i. test (m + i)))))
count_below-parts m (suc n) test =
    let next : m + suc n ≡ suc (m + n) = omega arith in
    ap (λ k. count_below k test) next
    ∙ omega (arith, count_below-suc (m + n) test, count_below-parts m n test, count_below-suc n (λ i. test (m + i)))
