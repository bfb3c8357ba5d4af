-- A word's bits at every other place of a longer word, and back.
use Rattle.std.proofs.Common.{◌≡◌, ℕ, ◌+◌, ◌-◌, ◌*◌, ◌/◌, ◌%◌, ◌^◌, ◌<◌, ◌==◌, Bool, true, false, not, ◌&&◌, ◌||◌, if◌then◌else◌, refl, ◌∙◌, ap, ap₂, arith, inl, inr, nat_lt, bit_and, bit_or}
use Rattle.std.proofs.lemmas.Bool.{agree_below_at, cases_eq, cases_lt, eq-eqb, ne_eqb, lt-ltb, le-ltb, and_parts, ltb-true}
use Rattle.std.proofs.lemmas.Bool.Decides.{Decides-eqb}
use Rattle.bit_tile.specs.Bit.{bit}
use Rattle.bit_tile.proofs.Bits.{bit-and, bit-or, bit-shr, bit-shl_high, bit-shl_low, bit-even_columns}
use Rattle.bit_tile.proofs.Words32.{bit-above}
use Rattle.std.proofs.Math.Bool.{or-false, and-true, and-false}

-- A stage has the bits in parts of s, each followed by s places without bits: the places that it fills, and which of the
-- bits stands there.
abbrev pub in_part : ℕ → ℕ → Bool
in_part s i = nat_lt (i % (2 * s)) s

abbrev pub source : ℕ → ℕ → ℕ
source s i = i / (2 * s) * s + i % s

abbrev pub IsSpread : ℕ → (ℕ → Bool) → ℕ → Type 0
IsSpread x bits s = (i : ℕ) → i < 64 → bit x i ≡ (in_part s i && bits (source s i))

-- a stage is right at place i
abbrev fits_at : ℕ → ℕ → Bool
fits_at s i =
    not (in_part s i)
    || ((in_part (2 * s) i && source (2 * s) i == source s i && (nat_lt i s || not (in_part (2 * s) (i - s))))
    || (not (in_part (2 * s) i) && not (nat_lt i s) && in_part (2 * s) (i - s) && source (2 * s) (i - s) == source s i))

pick : (o low before here there a b t : Bool) → (here ≡ true → a ≡ t) → (there ≡ true → b ≡ t) → ((o && here && (low || not before)) || (not o && not low && before && there)) ≡ true → ((o && a) || (if low then false else (before && b))) ≡ t
pick o low before here there a b t h9 h10 h11 = grind (arith, or-false)

cut_off : (b m r : Bool) → m ≡ false → (b && m) ≡ (m && r)
cut_off b m r h4 = grind arith

kept_on : (b m r : Bool) → m ≡ true → b ≡ r → (b && m) ≡ (m && r)
kept_on b m r h4 h5 = grind arith

by_part : (m b : Bool) → m ≡ true → (not m || b) ≡ true → b ≡ true
by_part m b h3 h4 = grind arith

shifted : (x s i : ℕ) → i < 64 → bit (x * 2 ^ s % 2 ^ 64) i ≡ (if nat_lt i s then false else bit x (i - s))
shifted x s i h = grind (arith, cases_lt, lt-ltb, bit-shl_low, le-ltb, bit-shl_high)

equal : (bits : ℕ → Bool) (a b : ℕ) → (a == b) ≡ true → bits a ≡ bits b
equal bits a b e = ap bits ((Decides-eqb a b).0 e)

-- half as long parts
pub stage : (x : ℕ) (bits : ℕ → Bool) (s mask : ℕ) → IsSpread x bits (2 * s) → ((i : ℕ) → i < 64 → bit mask i ≡ in_part s i) → ((i : ℕ) → i < 64 → fits_at s i ≡ true) → IsSpread (bit_and (bit_or x (x * 2 ^ s % 2 ^ 64)) mask) bits s
stage x bits s mask is is_mask fits i h =
    let t : Bool = bits (source s i) in
    bit-and (bit_or x (x * 2 ^ s % 2 ^ 64)) mask i
    ∙ (ap₂ (λ a b. a && b) (bit-or x (x * 2 ^ s % 2 ^ 64) i) (is_mask i h)
    ∙ elim (cases_lt (i % (2 * s)) s) [
      | inl low ↦
          let part : in_part s i ≡ true = lt-ltb (i % (2 * s)) s low in
          kept_on _ (in_part s i) (bits (source s i)) part
          (ap₂ (λ a b. a || b) (is i h) (shifted x s i h ∙ ap (λ b. if nat_lt i s then false else b) (is (i - s) (omega arith)))
          ∙ pick (in_part (2 * s) i) (nat_lt i s) (in_part (2 * s) (i - s)) (source (2 * s) i == source s i) (source (2 * s) (i - s) == source s i) _ _ (bits (source s i)) (equal bits _ _) (equal bits _ _)
          (by_part (in_part s i) _ part (fits i h)))
      | inr high ↦ let part : in_part s i ≡ false = le-ltb (i % (2 * s)) s high in cut_off _ (in_part s i) (bits (source s i)) part
    ])

whole : (w : ℕ) → w < 2 ^ 32 → IsSpread w (bit w) 32
whole w fits i h = grind (arith, cases_lt, lt-ltb, le-ltb, bit-above)

pub bit_of_spread : (w : ℕ) → w < 2 ^ 32 → (i : ℕ) → i < 64 →
    (let b : ℕ = bit_and (bit_or w (w * 2 ^ 16 % 2 ^ 64)) 281470681808895 in
    let c : ℕ = bit_and (bit_or b (b * 2 ^ 8 % 2 ^ 64)) 71777214294589695 in
    let d : ℕ = bit_and (bit_or c (c * 2 ^ 4 % 2 ^ 64)) 1085102592571150095 in
    let e : ℕ = bit_and (bit_or d (d * 2 ^ 2 % 2 ^ 64)) 3689348814741910323 in
    bit (bit_and (bit_or e (e * 2 ^ 1 % 2 ^ 64)) 6148914691236517205) i ≡ (i % 2 == 0 && bit w (i / 2)))
unfolding bit
bit_of_spread w fits i h =
    let b = stage w (bit w) 16 281470681808895 (whole w fits) (λ i h. agree_below_at (λ i. bit 281470681808895 i) (λ i. in_part 16 i) 64 i refl h) (λ i h. agree_below_at (λ i. fits_at 16 i) (λ _. true) 64 i refl h) in
    let c = stage _ (bit w) 8 71777214294589695 b (λ i h. agree_below_at (λ i. bit 71777214294589695 i) (λ i. in_part 8 i) 64 i refl h) (λ i h. agree_below_at (λ i. fits_at 8 i) (λ _. true) 64 i refl h) in
    let d = stage _ (bit w) 4 1085102592571150095 c (λ i h. agree_below_at (λ i. bit 1085102592571150095 i) (λ i. in_part 4 i) 64 i refl h) (λ i h. agree_below_at (λ i. fits_at 4 i) (λ _. true) 64 i refl h) in
    let e = stage _ (bit w) 2 3689348814741910323 d (λ i h. agree_below_at (λ i. bit 3689348814741910323 i) (λ i. in_part 2 i) 64 i refl h) (λ i h. agree_below_at (λ i. fits_at 2 i) (λ _. true) 64 i refl h) in
    let f = stage _ (bit w) 1 6148914691236517205 e (λ i h. agree_below_at (λ i. bit 6148914691236517205 i) (λ i. in_part 1 i) 64 i refl h) (λ i h. agree_below_at (λ i. fits_at 1 i) (λ _. true) 64 i refl h) in
    f i h ∙ ap₂ (λ a b. a && b) (agree_below_at (λ i. in_part 1 i) (λ i. i % 2 == 0) 64 i refl h) (ap (bit w) (omega arith))

-- twice as long parts
abbrev gathers_at : ℕ → ℕ → Bool
gathers_at s i =
    not (in_part (2 * s) i)
    || (nat_lt (i + s) 64
    && ((in_part s i && source s i == source (2 * s) i && (false || not (in_part s (i + s))))
    || (not (in_part s i) && not false && in_part s (i + s) && source s (i + s) == source (2 * s) i)))

pub stage_back : (x : ℕ) (bits : ℕ → Bool) (s mask : ℕ) → IsSpread x bits s → ((i : ℕ) → i < 64 → bit mask i ≡ in_part (2 * s) i) → ((i : ℕ) → i < 64 → gathers_at s i ≡ true) → IsSpread (bit_and (bit_or x (x / 2 ^ s)) mask) bits (2 * s)
stage_back x bits s mask is is_mask fits i h =
    let t : Bool = bits (source (2 * s) i) in
    let moved : bit (x / 2 ^ s) i ≡ bit x (i + s) = bit-shr x s i ∙ ap (bit x) (omega arith) in
    bit-and (bit_or x (x / 2 ^ s)) mask i
    ∙ (ap₂ (λ a b. a && b) (bit-or x (x / 2 ^ s) i) (is_mask i h)
    ∙ elim (cases_lt (i % (2 * (2 * s))) (2 * s)) [
      | inl low ↦
          let part : in_part (2 * s) i ≡ true = lt-ltb (i % (2 * (2 * s))) (2 * s) low in
          let both = and_parts (nat_lt (i + s) 64) _ (by_part (in_part (2 * s) i) _ part (fits i h)) in
          let inside : i + s < 64 = ltb-true (i + s) 64 both.0 in
          kept_on _ (in_part (2 * s) i) t part
          (ap₂ (λ a b. a || b) (is i h) (moved ∙ is (i + s) inside)
          ∙ pick (in_part s i) false (in_part s (i + s)) (source s i == source (2 * s) i) (source s (i + s) == source (2 * s) i) _ _ t (equal bits _ _) (equal bits _ _) both.1)
      | inr high ↦ let part : in_part (2 * s) i ≡ false = le-ltb (i % (2 * (2 * s))) (2 * s) high in cut_off _ (in_part (2 * s) i) t part
    ])

-- the bits at the even places of a word
evens : (w : ℕ) → IsSpread (bit_and w 6148914691236517205) (λ k. bit w (2 * k)) 1
evens w i h = grind (arith, bit-and, bit-even_columns, cases_eq, eq-eqb, lt-ltb, and-true, ne_eqb, le-ltb, and-false)

pub bit_of_gather : (w i : ℕ) → i < 32 →
    (let a : ℕ = bit_and w 6148914691236517205 in
    let b : ℕ = bit_and (bit_or a (a / 2 ^ 1)) 3689348814741910323 in
    let c : ℕ = bit_and (bit_or b (b / 2 ^ 2)) 1085102592571150095 in
    let d : ℕ = bit_and (bit_or c (c / 2 ^ 4)) 71777214294589695 in
    let e : ℕ = bit_and (bit_or d (d / 2 ^ 8)) 281470681808895 in
    bit (bit_and (bit_or e (e / 2 ^ 16)) 4294967295) i ≡ bit w (2 * i))
unfolding bit
bit_of_gather w i h =
    let f : ℕ → Bool = λ k. bit w (2 * k) in
    let b = stage_back _ f 1 3689348814741910323 (evens w) (λ i h. agree_below_at (λ i. bit 3689348814741910323 i) (λ i. in_part 2 i) 64 i refl h) (λ i h. agree_below_at (λ i. gathers_at 1 i) (λ _. true) 64 i refl h) in
    let c = stage_back _ f 2 1085102592571150095 b (λ i h. agree_below_at (λ i. bit 1085102592571150095 i) (λ i. in_part 4 i) 64 i refl h) (λ i h. agree_below_at (λ i. gathers_at 2 i) (λ _. true) 64 i refl h) in
    let d = stage_back _ f 4 71777214294589695 c (λ i h. agree_below_at (λ i. bit 71777214294589695 i) (λ i. in_part 8 i) 64 i refl h) (λ i h. agree_below_at (λ i. gathers_at 4 i) (λ _. true) 64 i refl h) in
    let e = stage_back _ f 8 281470681808895 d (λ i h. agree_below_at (λ i. bit 281470681808895 i) (λ i. in_part 16 i) 64 i refl h) (λ i h. agree_below_at (λ i. gathers_at 8 i) (λ _. true) 64 i refl h) in
    let g = stage_back _ f 16 4294967295 e (λ i h. agree_below_at (λ i. bit 4294967295 i) (λ i. in_part 32 i) 64 i refl h) (λ i h. agree_below_at (λ i. gathers_at 16 i) (λ _. true) 64 i refl h) in
    let part : in_part 32 i ≡ true = lt-ltb (i % (2 * 32)) 32 (omega arith) in
    let place : source 32 i ≡ i = omega arith in
    g i (omega arith) ∙ rw (part, place)

-- two words at every other place, side by side
pub both_rows : (a b even odd i : ℕ) → i < 64 → ((i : ℕ) → i < 64 → bit a i ≡ (i % 2 == 0 && bit even (i / 2))) → ((i : ℕ) → i < 64 → bit b i ≡ (i % 2 == 0 && bit odd (i / 2))) → bit (bit_or a (b * 2 % 2 ^ 64)) i ≡ (if i % 2 == 0 then bit even (i / 2) else bit odd (i / 2))
both_rows a b even odd i h is_a is_b =
    elim (cases_eq (i % 2) 0) [
      | inl e ↦
          let here : (i % 2 == 0) ≡ true = eq-eqb (i % 2) 0 e in
          let none : bit (b * 2 % 2 ^ 64) i ≡ false =
          shifted b 1 i h
          ∙ elim (cases_lt i 1) [
            | inl low ↦ let k : nat_lt i 1 ≡ true = lt-ltb i 1 low in rw k
            | inr high ↦
                let k : nat_lt i 1 ≡ false = le-ltb i 1 (omega arith) in
                let m : ((i - 1) % 2 == 0) ≡ false = ne_eqb ((i - 1) % 2) 0 (λ h. omega arith) in
                rw k (is_b (i - 1) (omega arith) ∙ rw m)
          ] in
          rw (bit-or, none, here) (or-false (bit a i) ∙ (is_a i h ∙ rw here))
      | inr ne ↦
          let here : (i % 2 == 0) ≡ false = ne_eqb (i % 2) 0 ne in
          let first : bit a i ≡ false = is_a i h ∙ rw here in
          let k : nat_lt i 1 ≡ false = le-ltb i 1 (omega arith) in
          let m : ((i - 1) % 2 == 0) ≡ true = eq-eqb ((i - 1) % 2) 0 (omega arith) in
          let there : bit (b * 2 % 2 ^ 64) i ≡ bit odd (i / 2) = shifted b 1 i h ∙ rw k (is_b (i - 1) (omega arith) ∙ rw m (ap (bit odd) (omega arith))) in
          rw (bit-or, first, here, there)
    ]
