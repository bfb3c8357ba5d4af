use Rattle.std.proofs.Common.{◌≡◌, ◌+◌, ◌-◌, ◌∙◌, ap, refl, arith, inl, inr}
use Rattle.std.proofs.lemmas.Bool.{cases_eq, eq-eqb, ne_eqb}
use Rattle.bit_tile.specs.Bit.{bit}
use Rattle.block_rule.proofs.blocks.with_first.Goals as goal

pub returns : goal.returns
returns c = λ i h.
    c.previous.ensures i h ∙ elim (cases_eq i 0) [
      | inl e ↦ rw (eq-eqb i 0 e) refl
      | inr ne ↦
          let inside : i - 1 + 1 ≡ i = omega (arith, ne) in
          rw (ne_eqb i 0 ne) (c.next.ensures (i - 1) (omega arith) ∙ rw (ne_eqb (i - 1) 31 (λ e. omega arith)) (ap (bit c.args.row) inside))
    ]
