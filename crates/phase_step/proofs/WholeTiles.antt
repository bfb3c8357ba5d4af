-- Tiles that have all cells, or none.
use Rattle.std.proofs.Common.{◌≡◌, ℕ, ◌<◌, ◌||◌, Bool, true, false, bit_or, bit_xor, refl, sym, ◌∙◌, arith}
use Rattle.std.proofs.lemmas.Bool.{agree_below_at}
use Rattle.bit_tile.specs.Bit.{bit}
use Rattle.bit_tile.proofs.Bits.{bit-or, bit-xor, either}

-- the word whose cells are all held
pub all_ones : (i : ℕ) → i < 32 → bit 4294967295 i ≡ true
unfolding bit
all_ones i h = agree_below_at (λ i. bit 4294967295 i) (λ _. true) 32 i refl h

none_differs : (held k a b c d : Bool) → (k || ((either a held || either b held) || (either c held || either d held))) ≡ false → (k ≡ false) × ((a ≡ held) × ((b ≡ held) × ((c ≡ held) × (d ≡ held))))
none_differs held k a b c d none = grind (arith, either)

-- a bit that is in none of four words' differences, nor in those before
module _ (held : Bool) (w a b c d k i : ℕ) (is : bit w i ≡ held) where
  joined : bit (bit_or k (bit_or (bit_or (bit_xor a w) (bit_xor b w)) (bit_or (bit_xor c w) (bit_xor d w)))) i
      ≡ (bit k i || ((either (bit a i) held || either (bit b i) held) || (either (bit c i) held || either (bit d i) held)))
  joined = grind (arith, bit-or, bit-xor)

  pub four_alike : bit (bit_or k (bit_or (bit_or (bit_xor a w) (bit_xor b w)) (bit_or (bit_xor c w) (bit_xor d w)))) i ≡ false → (bit k i ≡ false) × ((bit a i ≡ held) × ((bit b i ≡ held) × ((bit c i ≡ held) × (bit d i ≡ held))))
  four_alike none = none_differs held (bit k i) (bit a i) (bit b i) (bit c i) (bit d i) (sym joined ∙ none)
