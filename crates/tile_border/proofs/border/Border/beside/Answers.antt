use Rattle.std.proofs.Common.{◌≡◌, ℕ, ◌+◌, ◌*◌, ◌/◌, ◌%◌, ◌^◌, ◌<◌, ◌∙◌, sym, ap, arith, get_or, Bool, if◌then◌else◌, ◌==◌, inl, inr}
use Rattle.std.proofs.lemmas.Bool.{cases_eq, eq-eqb, ne_eqb}
use Rattle.bit_tile.specs.Bit.{bit}
use Rattle.bit_tile.specs.Tile.{has}
use Rattle.bit_tile.proofs.Bits.{bit-shr, bit-shl_high}
use Rattle.tile_border.proofs.border.Border.beside.Goals as goal

-- row y is written, and those before it stay
row_more : (y : ℕ) (want was now : ℕ → Bool) (own : Bool) → own ≡ want y → ((k : ℕ) → k < y → want k ≡ was k) → ((k : ℕ) → k < y + 1 → now k ≡ (if k == y then own else was k)) → (k : ℕ) → k < y + 1 → want k ≡ now k
row_more y want was now own here before writes k below =
    elim (cases_eq k y) [
      | inl same ↦
          let put : now k ≡ own = writes k below ∙ rw (eq-eqb k y same) in
          ap want same ∙ sym (put ∙ here)
      | inr other ↦
          let kept : now k ≡ was k = writes k below ∙ rw (ne_eqb k y other) in
          before k (omega arith) ∙ sym kept
    ]

pub loop-y-preserved : goal.loop-y-preserved
loop-y-preserved c =
    let y = c.loop-y.y in
    let sides = c.args.self.now.sides in
    let side : ℕ = get_or sides (y + 1) 0 in
    record {
      left = row_more y (λ k. bit (get_or sides (k + 1) 0) 0) (has c.loop-y.left 63) (has c.set_row.new.self 63) (bit (side * 2 ^ 63 % 2 ^ 64) 63)
          (bit-shl_high side 63 63 (omega arith) (omega arith)) c.loop-y.invariant.left (λ k h. c.set_row.ensures 63 k (omega arith) (omega arith));
      right = row_more y (λ k. bit (get_or sides (k + 1) 0) 63) (has c.loop-y.right 0) (has c.set_row-in-loop-y.new.self 0) (bit (side / 2 ^ 63) 0)
          (bit-shr side 63 0) c.loop-y.invariant.right (λ k h. c.set_row-in-loop-y.ensures 0 k (omega arith) (omega arith));
    }
