use Rattle.std.proofs.Common.{◌≡◌, ℕ, ◌+◌, ◌==◌, ◌∙◌, ap, sym, arith, pos, ◌-ℤ◌, ◌*ℤ◌}
use Rattle.std.specs.Prelude.{slice_index}
use Rattle.std.proofs.lemmas.Int.{ints}
use Rattle.gas_terms.specs.Velocity.{sign, parity as of_tick}
use Rattle.gas_terms.proofs.Totals.{same_sums}
use Rattle.gas_terms.proofs.accounts.Sums.of_counts.Goals as goal

pub returns : goal.returns
returns c = λ tick e.
    let small = c.requires.small in
    let a = small.small 0 (omega arith) in
    let b = small.small 1 (omega arith) in
    let d = small.small 2 (omega arith) in
    let f = small.small 3 (omega arith) in
    let turn : (m n : ℕ) → sign (c.args.parity == 0) *ℤ (pos m -ℤ pos n) ≡ sign (of_tick tick == 0) *ℤ (pos m -ℤ pos n) = λ m n. ap (λ p. sign (p == 0) *ℤ (pos m -ℤ pos n)) (sym e) in
    let at : ℕ → ℕ = λ k. slice_index c.args.counts k in
    same_sums _ _ (omega (arith, ints)) (omega (arith, ints) ∙ (c.momentum.ensures ∙ turn (at 0 + at 2) (at 1 + at 3))) (omega (arith, ints) ∙ (c.momentum-2.ensures ∙ turn (at 0 + at 1) (at 2 + at 3)))
