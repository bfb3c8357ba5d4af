-- The bits of a row's words and bytes.
use Rattle.std.proofs.Common.{◌≡◌, ℕ, zero, suc, ◌+◌, ◌++◌, ◌-◌, ◌*◌, ◌/◌, ◌%◌, ◌^◌, ◌<◌, ◌≤◌, ◌==◌, ◌&&◌, ◌||◌, nat_lt, Bool, true, false, if◌then◌else◌, bit_and, bit_or, List, length, get_or, refl, sym, ◌∙◌, ap, arith, inl, inr, w64, take, min}
use Rattle.std.specs.Int.{byte_at, bytes_low_first, from_le_bytes}
use Rattle.std.proofs.lemmas.List.{get_or-take, get_or_append_left, get_or-append_right, length-take}
use Rattle.std.proofs.lemmas.Slice.{take-put_mid}
use borrow.Rule.Slice.PartMut.{put_mid}
use Rattle.std.proofs.lemmas.Nat.{le_bytes_8}
use Rattle.std.proofs.lemmas.Bool.{agree_below_at, cases_lt}
use Rattle.std.proofs.lemmas.Bool.Decides.{Decides-eqb, nat_tests}
use Rattle.bit_tile.specs.Bit.{bit}
use Rattle.bit_tile.proofs.Bits.{bit-and, bit-or, bit-shr, bit-shl_high, bit-shl_low, bit_of_low}
use Rattle.gas_terms.specs.Rows.{row_has}

first_alone : (a : Bool) → ((a && true) || false) ≡ a
first_alone true = refl
first_alone false = refl

first_of_two : (a b : Bool) → ((a && true) || (b && false)) ≡ a
first_of_two true b = refl
first_of_two false true = refl
first_of_two false false = refl

second_of_two : (a b : Bool) → ((a && false) || (b && true)) ≡ b
second_of_two true true = refl
second_of_two true false = refl
second_of_two false true = refl
second_of_two false false = refl

-- neighbors of k bits change places: the mask has the lower of each two
swapped_low : (w m k i : ℕ) → i < 64 → bit m i ≡ true → (k ≤ i → bit m (i - k) ≡ false) → bit (bit_or (bit_and (w / 2 ^ k) m) (bit_and w m * 2 ^ k % 2 ^ 64)) i ≡ bit w (k + i)
swapped_low w m k i within here there = grind (arith, bit-or, bit-and, bit-shr, cases_lt, bit-shl_low, bit_and, first_alone, bit-shl_high, first_of_two)

swapped_high : (w m k i : ℕ) → i < 64 → k ≤ i → bit m i ≡ false → bit m (i - k) ≡ true → bit (bit_or (bit_and (w / 2 ^ k) m) (bit_and w m * 2 ^ k % 2 ^ 64)) i ≡ bit w (i - k)
swapped_high w m k i within above here there =
    rw (bit-or, bit-and, here, bit-shr, bit-shl_high (bit_and w m) k i within above, bit-and, there) (second_of_two (bit w (k + i)) (bit w (i - k)))

abbrev pub partner : ℕ → ℕ → ℕ
partner k i = if nat_lt (i % (2 * k)) k then k + i else i - k

even_bits : (i : ℕ) → i < 64 → bit 6148914691236517205 i ≡ nat_lt (i % 2) 1
unfolding bit
even_bits i within = agree_below_at (λ i. bit 6148914691236517205 i) (λ i. nat_lt (i % 2) 1) 64 i refl within

even_pairs : (i : ℕ) → i < 64 → bit 3689348814741910323 i ≡ nat_lt (i % 4) 2
unfolding bit
even_pairs i within = agree_below_at (λ i. bit 3689348814741910323 i) (λ i. nat_lt (i % 4) 2) 64 i refl within

low_halves : (i : ℕ) → i < 64 → bit 1085102592571150095 i ≡ nat_lt (i % 8) 4
unfolding bit
low_halves i within = agree_below_at (λ i. bit 1085102592571150095 i) (λ i. nat_lt (i % 8) 4) 64 i refl within

less : (a b : ℕ) → a < b → nat_lt a b ≡ true
less a b h = grind (arith, nat_tests)

not_less : (a b : ℕ) → b ≤ a → nat_lt a b ≡ false
not_less a b h = grind (arith, nat_tests)

swapped_ones : (w i : ℕ) → i < 64 → bit (bit_or (bit_and (w / 2 ^ 1) 6148914691236517205) (bit_and w 6148914691236517205 * 2 ^ 1 % 2 ^ 64)) i ≡ bit w (partner 1 i)
swapped_ones w i h =
    elim (cases_lt (i % 2) 1) [
      | inl low ↦ rw (less (i % 2) 1 low) (swapped_low w 6148914691236517205 1 i h (even_bits i h ∙ less (i % 2) 1 low) (λ k. even_bits (i - 1) (omega arith) ∙ not_less ((i - 1) % 2) 1 (omega arith)))
      | inr high ↦ rw (not_less (i % 2) 1 high) (swapped_high w 6148914691236517205 1 i h (omega arith) (even_bits i h ∙ not_less (i % 2) 1 high) (even_bits (i - 1) (omega arith) ∙ less ((i - 1) % 2) 1 (omega arith)))
    ]

swapped_pairs : (w i : ℕ) → i < 64 → bit (bit_or (bit_and (w / 2 ^ 2) 3689348814741910323) (bit_and w 3689348814741910323 * 2 ^ 2 % 2 ^ 64)) i ≡ bit w (partner 2 i)
swapped_pairs w i h =
    elim (cases_lt (i % 4) 2) [
      | inl low ↦ rw (less (i % 4) 2 low) (swapped_low w 3689348814741910323 2 i h (even_pairs i h ∙ less (i % 4) 2 low) (λ k. even_pairs (i - 2) (omega arith) ∙ not_less ((i - 2) % 4) 2 (omega arith)))
      | inr high ↦ rw (not_less (i % 4) 2 high) (swapped_high w 3689348814741910323 2 i h (omega arith) (even_pairs i h ∙ not_less (i % 4) 2 high) (even_pairs (i - 2) (omega arith) ∙ less ((i - 2) % 4) 2 (omega arith)))
    ]

swapped_halves : (w i : ℕ) → i < 64 → bit (bit_or (bit_and (w / 2 ^ 4) 1085102592571150095) (bit_and w 1085102592571150095 * 2 ^ 4 % 2 ^ 64)) i ≡ bit w (partner 4 i)
swapped_halves w i h =
    elim (cases_lt (i % 8) 4) [
      | inl low ↦ rw (less (i % 8) 4 low) (swapped_low w 1085102592571150095 4 i h (low_halves i h ∙ less (i % 8) 4 low) (λ k. low_halves (i - 4) (omega arith) ∙ not_less ((i - 4) % 8) 4 (omega arith)))
      | inr high ↦ rw (not_less (i % 8) 4 high) (swapped_high w 1085102592571150095 4 i h (omega arith) (low_halves i h ∙ not_less (i % 8) 4 high) (low_halves (i - 4) (omega arith) ∙ less ((i - 4) % 8) 4 (omega arith)))
    ]

abbrev pub ones_of : ℕ → ℕ
ones_of w = bit_or (bit_and (w / 2 ^ 1) 6148914691236517205) (bit_and w 6148914691236517205 * 2 ^ 1 % 2 ^ 64)

abbrev pub pairs_of : ℕ → ℕ
pairs_of w = bit_or (bit_and (w / 2 ^ 2) 3689348814741910323) (bit_and w 3689348814741910323 * 2 ^ 2 % 2 ^ 64)

abbrev pub halves_of : ℕ → ℕ
halves_of w = bit_or (bit_and (w / 2 ^ 4) 1085102592571150095) (bit_and w 1085102592571150095 * 2 ^ 4 % 2 ^ 64)

below_64 : (n : ℕ) → nat_lt n 64 ≡ true → n < 64
below_64 n e = grind (arith, nat_tests)

pub bit_mirrored : (w i : ℕ) → i < 64 → bit (halves_of (pairs_of (ones_of w))) i ≡ bit w (i / 8 * 8 + (7 - i % 8))
bit_mirrored w i h =
    let low : partner 4 i < 64 = below_64 (partner 4 i) (agree_below_at (λ i. nat_lt (partner 4 i) 64) (λ _. true) 64 i refl h) in
    let inner : partner 2 (partner 4 i) < 64 = below_64 (partner 2 (partner 4 i)) (agree_below_at (λ i. nat_lt (partner 2 (partner 4 i)) 64) (λ _. true) 64 i refl h) in
    let place : partner 1 (partner 2 (partner 4 i)) ≡ i / 8 * 8 + (7 - i % 8) =
    (Decides-eqb (partner 1 (partner 2 (partner 4 i))) (i / 8 * 8 + (7 - i % 8))).0 (agree_below_at (λ i. partner 1 (partner 2 (partner 4 i)) == i / 8 * 8 + (7 - i % 8)) (λ _. true) 64 i refl h) in
    swapped_halves (pairs_of (ones_of w)) i h
    ∙ (swapped_pairs (ones_of w) (partner 4 i) low
    ∙ (swapped_ones w (partner 2 (partner 4 i)) inner ∙ ap (bit w) place))

-- the k-th byte of a mirrored word
bit_of_byte : (word mirror k i : ℕ) → i < 8 → k < 8 → ((i : ℕ) → i < 64 → bit mirror i ≡ bit word (i / 8 * 8 + (7 - i % 8))) → bit (mirror / 2 ^ (8 * k) % 256) (7 - i) ≡ bit word (8 * k + i)
bit_of_byte word mirror k i h q is =
    let place : (8 * k + (7 - i)) / 8 * 8 + (7 - (8 * k + (7 - i)) % 8) ≡ 8 * k + i = omega arith in
    bit_of_low (mirror / 2 ^ (8 * k)) 8 (7 - i) (omega arith)
    ∙ (bit-shr mirror (8 * k) (7 - i)
    ∙ (is (8 * k + (7 - i)) (omega arith) ∙ ap (bit word) place))

-- eight bytes, from the lowest on
low_byte : (i k n j : ℕ) → j < k → get_or (bytes_low_first i k n) j 0 ≡ byte_at (i + j) n
low_byte i zero n j h = absurd (omega arith)
low_byte i (suc k) n zero h = ap (λ m. byte_at m n) (let e : i ≡ i + 0 = omega arith in e)
low_byte i (suc k) n (suc j) h = low_byte (suc i) k n j (omega arith) ∙ ap (λ m. byte_at m n) (let e : suc i + j ≡ i + suc j = omega arith in e)

byte_is : (m n : ℕ) → m < 8 → byte_at m n ≡ n / 2 ^ (8 * m) % 256
byte_is zero n h = let e : n ≡ n / 2 ^ (8 * 0) = omega arith in ap (λ v. v % 256) e
byte_is (suc zero) n h = refl
byte_is (suc (suc zero)) n h = refl
byte_is (suc (suc (suc zero))) n h = refl
byte_is (suc (suc (suc (suc zero)))) n h = refl
byte_is (suc (suc (suc (suc (suc zero))))) n h = refl
byte_is (suc (suc (suc (suc (suc (suc zero)))))) n h = refl
byte_is (suc (suc (suc (suc (suc (suc (suc zero))))))) n h = refl
byte_is (suc (suc (suc (suc (suc (suc (suc (suc m)))))))) n h = absurd (omega arith)

pub bit_of_word : (bytes : List ℕ) (n word x : ℕ) → length bytes ≡ 8 → ((k : ℕ) → get_or bytes k 0 < 256) → n ≡ from_le_bytes w64 bytes → ((i : ℕ) → i < 64 → bit word i ≡ bit n (i / 8 * 8 + (7 - i % 8))) → x < 64 → bit word x ≡ row_has bytes x
unfolding bit
bit_of_word bytes n word x long small read is h =
    let byte : get_or bytes (x / 8) 0 ≡ n / 2 ^ (8 * (x / 8)) % 256 =
    ap (λ (bs : List ℕ). get_or bs (x / 8) 0) (sym (le_bytes_8 bytes n long small read)) ∙ (low_byte 0 8 n (x / 8) (omega arith) ∙ (ap (λ m. byte_at m n) (let e : 0 + x / 8 ≡ x / 8 = omega arith in e) ∙ byte_is (x / 8) n (omega arith))) in
    let e : x / 8 * 8 + (7 - x % 8) ≡ 8 * (x / 8) + (7 - x % 8) = omega arith in
    is x h
    ∙ (ap (bit n) e
    ∙ (sym (bit-shr n (8 * (x / 8)) (7 - x % 8))
    ∙ (sym (bit_of_low (n / 2 ^ (8 * (x / 8))) 8 (7 - x % 8) (omega arith))
    ∙ ap (λ v. v / 2 ^ (7 - x % 8) % 2 == 1) (sym byte))))

-- the bytes of a mirrored word
pub bit_of_bytes : (word mirror k i : ℕ) → k < 8 → i < 8 → ((i : ℕ) → i < 64 → bit mirror i ≡ bit word (i / 8 * 8 + (7 - i % 8))) → bit (get_or (bytes_low_first 0 8 mirror) k 0) (7 - i) ≡ bit word (8 * k + i)
bit_of_bytes word mirror k i h q is =
    ap (λ b. bit b (7 - i)) (low_byte 0 8 mirror k h ∙ (ap (λ m. byte_at m mirror) (let e : 0 + k ≡ k = omega arith in e) ∙ byte_is k mirror h)) ∙ bit_of_byte word mirror k i q h is

-- a part of the bytes is written over: what stands before it, and in it
kept_len : (n : ℕ) (l : List ℕ) → n ≤ length l → length (take n l) ≡ n
kept_len n l h = let e : min n (length l) ≡ n = omega arith in length-take n l ∙ e

written : (out part : List ℕ) (at k i : ℕ) → at ≤ length out → i < at + length part → get_or (put_mid at k out part) i 0 ≡ get_or (take at out ++ part) i 0
written out part at k i within h =
    sym (get_or-take (at + length part) (put_mid at k out part) i 0 h) ∙ ap (λ (bytes : List ℕ). get_or bytes i 0) (take-put_mid at k out part (at + length part) refl within)

before_part : (out part : List ℕ) (at k i : ℕ) → at ≤ length out → i < at → get_or (put_mid at k out part) i 0 ≡ get_or out i 0
before_part out part at k i within h =
    written out part at k i within (omega arith) ∙ (get_or_append_left (take at out) part 0 i (omega (arith, kept_len at out within)) ∙ get_or-take at out i 0 h)

pub in_part : (out part : List ℕ) (at k i : ℕ) → at ≤ length out → i < length part → get_or (put_mid at k out part) (at + i) 0 ≡ get_or part i 0
in_part out part at k i within h = grind (arith, written, get_or-append_right, kept_len, get_or)

pub part_filled : (out part : List ℕ) (at k : ℕ) (f : ℕ → ℕ) → at ≤ length out → ((i : ℕ) → i < at → get_or out i 0 ≡ f i) → ((i : ℕ) → i < length part → get_or part i 0 ≡ f (at + i))
    → (i : ℕ) → i < at + length part → get_or (put_mid at k out part) i 0 ≡ f i
part_filled out part at k f within before here i h =
    elim (cases_lt i at) [
      | inl below ↦ before_part out part at k i within below ∙ before i below
      | inr above ↦
          let e : at + (i - at) ≡ i = omega arith in
          ap (λ n. get_or (put_mid at k out part) n 0) (sym e) ∙ (in_part out part at k (i - at) within (omega arith) ∙ (here (i - at) (omega arith) ∙ ap f e))
    ]

-- the i-th byte of a row is one of its word's
pub byte_in_row : (column i j : ℕ) → j < 8 → column * 64 + (8 * i + j) ≡ 8 * (column * 8 + i) + j
byte_in_row column i j h = omega arith
