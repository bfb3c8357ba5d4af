use Rattle.std.proofs.Common.{sym, ap, ◌∙◌, pos, ◌-ℤ◌}
use Rattle.gas_terms.specs.Cells.{Cells}
use Rattle.gas_terms.specs.Velocity.{parity}
use Rattle.gas_terms.specs.Gas.{solid}
use Rattle.gas_terms.specs.Accounts.{taken}
use Rattle.gas_terms.proofs.Steps.{unstreamed-streamed}
use Rattle.gas_terms.proofs.StoppedTotals.{taken-streamed}
use Rattle.phase_step.proofs.laws.phases_are_steps.Goals as goal

pub returns-clause-back : goal.returns-clause-back
returns-clause-back c = λ g even. sym (unstreamed-streamed (parity (g.tick -ℤ pos 1)) g.particles (solid g) even)

pub returns-clause-back_took : goal.returns-clause-back_took
returns-clause-back_took c = λ g even.
    sym (taken-streamed (g.tick -ℤ pos 1) g.particles g.walls g.obstacles even)
    ∙ ap (λ (cells : Cells). taken (parity (g.tick -ℤ pos 1)) cells g.walls g.obstacles) (sym (unstreamed-streamed (parity (g.tick -ℤ pos 1)) g.particles (solid g) even))
