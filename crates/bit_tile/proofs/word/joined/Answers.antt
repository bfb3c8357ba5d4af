use Rattle.std.proofs.Common.{◌≡◌, ℕ, ◌+◌, ◌*◌, ◌^◌, ◌%◌, ◌<◌, ◌||◌, false, Bool, ◌∙◌, ap, arith, bit_or}
use Rattle.bit_tile.specs.Bit.{bit}
use Rattle.bit_tile.proofs.Bits.{bit-or, bit-shl_low, bit-shl_high, above_width}
use Rattle.bit_tile.proofs.word.joined.Goals as goal

or_nothing : (a b : Bool) → b ≡ false → (a || b) ≡ a
or_nothing a b h3 = grind arith

of_first : (a b i : ℕ) → i < 32 → bit (bit_or a (b * 4294967296 % 18446744073709551616)) i ≡ bit a i
of_first a b i h = bit-or a (b * 4294967296 % 18446744073709551616) i ∙ or_nothing (bit a i) _ (bit-shl_low b 32 i (omega arith) h)

of_second : (a b i : ℕ) → a < 2 ^ 32 → i < 32 → bit (bit_or a (b * 4294967296 % 18446744073709551616)) (32 + i) ≡ bit b i
of_second a b i fits h =
    let above : bit a (32 + i) ≡ false = above_width 32 a (32 + i) fits (omega arith) in
    let there : bit (b * 4294967296 % 18446744073709551616) (32 + i) ≡ bit b i = bit-shl_high b 32 (32 + i) (omega arith) (omega arith) ∙ ap (bit b) (omega arith) in
    bit-or a (b * 4294967296 % 18446744073709551616) (32 + i) ∙ (ap (λ v. v || bit (b * 4294967296 % 18446744073709551616) (32 + i)) above ∙ there)

pub returns-clause-first : goal.returns-clause-first
returns-clause-first c = λ i h. rw (c.from.ensures, c.from-2.ensures) (of_first c.args.first c.args.second i h)

pub returns-clause-second : goal.returns-clause-second
returns-clause-second c = λ i h. rw (c.from.ensures, c.from-2.ensures) (of_second c.args.first c.args.second i (omega arith) h)
