use Rattle.std.proofs.Common.{◌≡◌, ◌+◌, ap₂, arith}
use Rattle.block_rule.proofs.Holding.{small_again, momentum_is}
use Rattle.block_rule.proofs.count.momentum.Goals as goal

pub returns-then-parity-eq0-clause-is : goal.returns-then-parity-eq0-clause-is
returns-then-parity-eq0-clause-is c = λ cells is.
    let n = c.requires.counts in
    rw c.if-parity-eq0.true
    (momentum_is c.args.counts cells is 0 (omega arith) _ _ _ _
    (ap₂ (λ a b. a + b) is.even_even is.even_odd) (ap₂ (λ a b. a + b) is.odd_even is.odd_odd)
    (ap₂ (λ a b. a + b) is.even_even is.odd_even) (ap₂ (λ a b. a + b) is.even_odd is.odd_odd) _ _
    (small_again c.twice.result (c.args.counts.even_even + c.args.counts.even_odd) (c.args.counts.odd_even + c.args.counts.odd_odd) (omega (arith, n.even_even, n.even_odd)) (omega (arith, n.odd_even, n.odd_odd)) c.twice.ensures.is)
    (small_again c.twice-then-parity-eq0.result (c.args.counts.even_even + c.args.counts.odd_even) (c.args.counts.even_odd + c.args.counts.odd_odd) (omega (arith, n.even_even, n.odd_even)) (omega (arith, n.even_odd, n.odd_odd)) c.twice-then-parity-eq0.ensures.is))

pub returns-clause-is : goal.returns-clause-is
returns-clause-is c = λ cells is.
    let n = c.requires.counts in
    let e : c.args.parity ≡ 1 = omega arith in
    rw e
    (momentum_is c.args.counts cells is 1 (omega arith) _ _ _ _
    (ap₂ (λ a b. a + b) is.odd_even is.odd_odd) (ap₂ (λ a b. a + b) is.even_even is.even_odd)
    (ap₂ (λ a b. a + b) is.even_odd is.odd_odd) (ap₂ (λ a b. a + b) is.even_even is.odd_even) _ _
    (small_again c.twice-2.result (c.args.counts.odd_even + c.args.counts.odd_odd) (c.args.counts.even_even + c.args.counts.even_odd) (omega (arith, n.odd_even, n.odd_odd)) (omega (arith, n.even_even, n.even_odd)) c.twice-2.ensures.is)
    (small_again c.twice-3.result (c.args.counts.even_odd + c.args.counts.odd_odd) (c.args.counts.even_even + c.args.counts.odd_even) (omega (arith, n.even_odd, n.odd_odd)) (omega (arith, n.even_even, n.odd_even)) c.twice-3.ensures.is))
