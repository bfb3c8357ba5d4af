-- A border made of eight tiles.
use Rattle.std.proofs.Common.{inl, inr, zero, suc, ◌≡◌, ℕ, ◌+◌, ◌*◌, ◌-◌, ◌^◌, ◌<◌, ◌==◌, Bool, true, false, if◌then◌else◌, get_or, map, refl, ◌∙◌, ap, arith}
use Rattle.std.specs.List.{range_with_len}
use Rattle.std.specs.Int.{bit_at}
use Rattle.std.proofs.lemmas.Bool.{cases_Bool, cases_eq, ne_eqb}
use Rattle.std.proofs.Math.Nat.{pow-succ'}
use Rattle.std.proofs.lemmas.Nat.Bits.{bit_at_cat_low, bit_at_cat_high}
use Rattle.std.proofs.lemmas.List.FromFn.{get_or-map-range_with_len}
use Rattle.bit_tile.specs.Bit.{bit}
use Rattle.bit_tile.specs.Tile.{has}
use Rattle.tile_border.specs.Ring.{ring, IsBorderOf}
use Rattle.tile_border.specs.declared.border.Border.{Border}
use Rattle.tile_border.specs.declared.border.Neighbors.{Neighbors}

-- the word whose bits below n are as the test says
word_where : (ℕ → Bool) → ℕ → ℕ
word_where test zero = 0
word_where test (suc n) = (if test n then 1 else 0) * 2 ^ n + word_where test n

word_fits : (test : ℕ → Bool) (n : ℕ) → word_where test n < 2 ^ n
unfolding word_where
word_fits test zero = omega arith
word_fits test (suc n) =
    let rest = word_fits test n in
    let twice : 2 ^ suc n ≡ 2 * 2 ^ n = pow-succ' 2 n in
    elim (cases_Bool (test n)) [
      | inl held ↦ rw held (omega (arith, rest, twice))
      | inr gone ↦ rw gone (omega (arith, rest, twice))
    ]

top : (b : Bool) → bit (if b then 1 else 0) 0 ≡ b
unfolding bit
top true = refl
top false = refl

word_bit : (test : ℕ → Bool) (n i : ℕ) → i < n → bit (word_where test n) i ≡ test i
unfolding word_where bit
word_bit test zero i h = absurd (omega arith)
word_bit test (suc n) i h =
    let digit : ℕ = if test n then 1 else 0 in
    elim (cases_eq i n) [
      | inl same ↦
          let none : n - n ≡ 0 = omega arith in
          rw same (ap (λ m. m == 1) (bit_at_cat_high digit n (word_where test n) n (word_fits test n) (omega arith) ∙ ap (bit_at digit) none) ∙ top (test n))
      | inr other ↦ ap (λ m. m == 1) (bit_at_cat_low digit n (word_where test n) i (omega arith)) ∙ word_bit test n i (omega arith)
    ]

module _ (near : Neighbors) where
  first_of : ℕ → Bool
  first_of j = if j == 0 then has near.above_left 63 63 else (if j == 65 then has near.below_left 63 0 else has near.left 63 (j - 1))

  last_of : ℕ → Bool
  last_of j = if j == 0 then has near.above_right 0 63 else (if j == 65 then has near.below_right 0 0 else has near.right 0 (j - 1))

  side_of : ℕ → ℕ
  side_of j = word_where (λ i. if i == 0 then first_of j else last_of j) 64

  made : Border
  made =
      record {
        above = word_where (λ x. has near.above x 63) 64;
        below = word_where (λ x. has near.below x 0) 64;
        sides = map side_of (range_with_len 0 66);
      }

  side_at : (j : ℕ) → j < 66 → get_or made.sides j 0 ≡ side_of j
  unfolding made
  side_at j h = get_or-map-range_with_len side_of 0 66 j j 0 h (omega arith)

  first_at : (j : ℕ) → j < 66 → ring made 0 j ≡ first_of j
  unfolding side_of
  first_at j h = ap (λ w. bit w 0) (side_at j h) ∙ word_bit (λ i. if i == 0 then first_of j else last_of j) 64 0 (omega arith)

  last_at : (j : ℕ) → j < 66 → ring made 65 j ≡ last_of j
  unfolding side_of
  last_at j h = ap (λ w. bit w 63) (side_at j h) ∙ word_bit (λ i. if i == 0 then first_of j else last_of j) 64 63 (omega arith)

  inner : (f : ℕ → Bool) (u v : Bool) (y : ℕ) → y < 64 → (if y + 1 == 0 then u else (if y + 1 == 65 then v else f (y + 1 - 1))) ≡ f y
  inner f u v y h =
      let not_first : (y + 1 == 0) ≡ false = ne_eqb (y + 1) 0 (λ e. omega arith) in
      let not_last : (y + 1 == 65) ≡ false = ne_eqb (y + 1) 65 (λ e. omega arith) in
      let back : y + 1 - 1 ≡ y = omega arith in
      rw (not_first, not_last, back) refl

  pub border_of_tiles : (b : Border) × IsBorderOf b near
  unfolding made first_of last_of
  border_of_tiles = (
    made,
    record {
      above = λ x h. inner (λ x. bit made.above x) (ring made 0 0) (ring made 65 0) x h ∙ word_bit (λ x. has near.above x 63) 64 x h;
      below = λ x h. inner (λ x. bit made.below x) (ring made 0 65) (ring made 65 65) x h ∙ word_bit (λ x. has near.below x 0) 64 x h;
      left = λ y h. first_at (y + 1) (omega arith) ∙ inner (has near.left 63) (has near.above_left 63 63) (has near.below_left 63 0) y h;
      right = λ y h. last_at (y + 1) (omega arith) ∙ inner (has near.right 0) (has near.above_right 0 63) (has near.below_right 0 0) y h;
      above_left = first_at 0 (omega arith);
      above_right = last_at 0 (omega arith);
      below_left = first_at 65 (omega arith);
      below_right = last_at 65 (omega arith);
    },
  )
