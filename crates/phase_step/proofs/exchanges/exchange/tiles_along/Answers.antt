use Rattle.std.proofs.Common.{◌≡◌, ◌+◌, ◌-◌, nat_le, nat_lt, ◌&&◌, ap, ap₂, ◌∙◌, arith}
use Rattle.phase_step.specs.Exchanges.{is_met}
use Rattle.phase_step.proofs.exchanges.exchange.tiles_along.Goals as goal

pub returns-clause-met : goal.returns-clause-met
returns-clause-met c = λ k h.
    let met = c.tiles_met-first in
    let end : met.result.0 + (met.result.1 - met.result.0) ≡ met.result.1 = omega (arith, met.ensures.ordered) in
    ap (λ n. nat_le met.result.0 k && nat_lt k n) end ∙ (met.ensures.met k h ∙ ap₂ (λ start len. is_met start len k) c.from.ensures c.from-2.ensures)
