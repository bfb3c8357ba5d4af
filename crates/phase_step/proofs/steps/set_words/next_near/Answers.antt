use Rattle.std.proofs.Common.{arith, inl, inr}
use Rattle.std.proofs.lemmas.Bool.{cases_lt}
use Rattle.std.proofs.lemmas.Bool.Decides.{nat_tests}
use Rattle.phase_step.proofs.SolidBlocks.{far_before, far_after}
use Rattle.phase_step.proofs.steps.set_words.next_near.Goals as goal

pub returns-then-near-n-clause-far : goal.returns-then-near-n-clause-far
returns-then-near-n-clause-far c = λ j low high.
    far_before c.args.start c.args.len c.args.n j (grind (arith, nat_tests)) (grind (arith, nat_tests)) (λ e. grind (arith, nat_tests))

pub returns-then-start-k-clause-far : goal.returns-then-start-k-clause-far
returns-then-start-k-clause-far c = λ j low high.
    far_after c.args.start c.args.len c.args.n j (grind (arith, nat_tests)) (grind (arith, nat_tests)) (grind (arith, nat_tests)) (λ e. grind (arith, nat_tests))

pub returns-else-start-k-clause-far : goal.returns-else-start-k-clause-far
returns-else-start-k-clause-far c = λ j low high.
    elim (cases_lt j c.saturating_sub-first.result) [
      | inl less ↦ far_before c.args.start c.args.len c.args.n j high (grind (arith, nat_tests)) (λ e. grind (arith, nat_tests))
      | inr more ↦ far_after c.args.start c.args.len c.args.n j high (grind (arith, nat_tests)) (grind (arith, nat_tests)) (λ e. grind (arith, nat_tests))
    ]
