-- Bits of words of 32.
use Rattle.std.proofs.Common.{◌≡◌, ℕ, ◌-◌, ◌*◌, ◌/◌, ◌%◌, ◌^◌, ◌<◌, ◌≤◌, ◌==◌, true, false, not, ◌&&◌, refl, sym, ◌∙◌, ap, arith, inl, inr, if◌then◌else◌, nat_le, nat_lt, lit<}
use Rattle.std.specs.Prelude.{bit_and, bit_or}
use Rattle.std.specs.Int.{bit_at, bit_not, w32}
use Rattle.std.proofs.lemmas.Nat.Bits.{bit_at-lt, bit_at_not, bit_at_set_same, bit_at_set_other, bit_at_clear_same, bit_at_clear_other, bit_at_ones}
use Rattle.std.proofs.lemmas.Bool.{cases_eq, cases_lt, eq-eqb, ne_eqb}
use Rattle.std.proofs.lemmas.Bool.Decides.{nat_tests}
use Rattle.bit_tile.specs.Bit.{bit}
use Rattle.bit_tile.proofs.Bits.{bit-zero, bit-shr, rest_is_one, above_width, shl_high, shl_low, same_bits}

pub bit-not : (a i : ℕ) → a < 2 ^ 32 → i < 32 → bit (bit_not w32 a) i ≡ not (bit a i)
unfolding bit
bit-not a i fits within = ap (λ n. n == 1) (bit_at_not w32 a i fits within) ∙ rest_is_one (bit_at a i) (bit_at-lt a i)

pub bit-above : (a i : ℕ) → a < 2 ^ 32 → 32 ≤ i → bit a i ≡ false
bit-above = above_width 32

pub bit-shl_high : (a k i : ℕ) → i < 32 → k ≤ i → bit (a * 2 ^ k % 2 ^ 32) i ≡ bit a (i - k)
bit-shl_high = shl_high 32

pub bit-shl_low : (a k i : ℕ) → i < 32 → i < k → bit (a * 2 ^ k % 2 ^ 32) i ≡ false
bit-shl_low = shl_low 32

-- words with the same bits are the same
pub same_word : (a b : ℕ) → a < 2 ^ 32 → b < 2 ^ 32 → ((i : ℕ) → i < 32 → bit a i ≡ bit b i) → a ≡ b
same_word = same_bits 32

-- a word without bits is 0
pub none_set : (a : ℕ) → a < 2 ^ 32 → ((i : ℕ) → i < 32 → bit a i ≡ false) → a ≡ 0
none_set a fits none = same_word a 0 fits (lit< tt) (λ i within. none i within ∙ sym (bit-zero i))

eqb_same : (k : ℕ) → (k == k) ≡ true
eqb_same k = eq-eqb k k refl

-- `n | 1 << k` and `n & !(1 << k)`
pub bit_of_set_same : (n k i : ℕ) → k < 32 → i ≡ k → bit (bit_or n (1 * 2 ^ k % 2 ^ 32)) i ≡ true
unfolding bit
bit_of_set_same n k i within same = rw same (ap (λ m. m == 1) (bit_at_set_same w32 n k within))

pub bit_of_set_other : (n k i : ℕ) → k < 32 → (i ≡ k → ⊥) → bit (bit_or n (1 * 2 ^ k % 2 ^ 32)) i ≡ bit n i
unfolding bit
bit_of_set_other n k i within other = ap (λ m. m == 1) (bit_at_set_other w32 n k within i other)

pub bit_of_set : (n k i : ℕ) → k < 32 → bit (bit_or n (1 * 2 ^ k % 2 ^ 32)) i ≡ (if i == k then true else bit n i)
bit_of_set n k i within = grind (arith, cases_eq, bit_of_set_same, eqb_same, bit_of_set_other, ne_eqb)

pub bit_of_clear : (n k i : ℕ) → k < 32 → i < 32 → bit (bit_and n (bit_not w32 (1 * 2 ^ k % 2 ^ 32))) i ≡ (if i == k then false else bit n i)
unfolding bit
bit_of_clear n k i within in_row =
    elim (cases_eq i k) [
      | inl same ↦ rw (same, eqb_same k) (ap (λ m. m == 1) (bit_at_clear_same w32 n k within))
      | inr other ↦ rw (ne_eqb i k other) (ap (λ m. m == 1) (bit_at_clear_other w32 n k within i in_row other))
    ]

pub bit-ones : (i : ℕ) → i < 32 → bit (2 ^ 32 - 1) i ≡ true
unfolding bit
bit-ones i within = ap (λ m. m == 1) (bit_at_ones 32 i within)

-- no number is y or more and below y
pub bit_of_none : (first end : ℕ) → first ≡ end → (i : ℕ) → bit 0 i ≡ (nat_le first i && nat_lt i end)
bit_of_none first end e i = bit-zero i ∙ grind (arith, nat_tests)

-- `(MAX >> 32 - n) << first` has the bits from `first` up to `end`
pub bit_of_span : (first end : ℕ) → (first ≡ end → ⊥) → first ≤ end → end ≤ 32 → (i : ℕ) → i < 32 → bit ((2 ^ 32 - 1) / 2 ^ (32 - (end - first)) * 2 ^ first % 2 ^ 32) i ≡ (nat_le first i && nat_lt i end)
bit_of_span first end some order within i in_row = grind (arith, cases_lt, bit-shl_low, nat_tests, bit-shl_high, bit-shr, bit-ones, bit-above, lit<)
