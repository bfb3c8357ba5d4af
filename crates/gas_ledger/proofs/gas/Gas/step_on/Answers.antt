use Rattle.std.proofs.Common.{◌≡◌, ℕ, pos, ◌+ℤ◌, ap, ap₂, sym, subst, ◌∙◌}
use Rattle.gas_terms.specs.Cells.{Cells, joined}
use Rattle.gas_terms.specs.Gas.{Gas}
use Rattle.gas_terms.specs.Velocity.{parity}
use Rattle.phase_step.specs.Actions.{Leaves, after_with, flow_with}
use Rattle.phase_step.specs.PortedRuns.{steps_take, steps_move}
use Rattle.phase_step.specs.declared.sums.flow.Flow.{Flow}
use Rattle.gas_ledger.specs.PortLists.{left_by}
use Rattle.gas_ledger.specs.Gases.{gas_of}
use Rattle.gas_ledger.proofs.Running.{fit_with, chosen}
use Rattle.gas_ledger.proofs.gas.Gas.step_on.Goals as goal

pub invariant_of-self : goal.invariant_of-self
invariant_of-self g c =
    let l = c.self.inside in
    fit_with c.parity-parity.result (joined l.solids.walls l.solids.obstacles) (λ k. left_by l.ports (l.tick +ℤ pos k +ℤ pos 1)) l.particles c.run_with.new.particles l.solids.walls l.solids.obstacles l.ports c.args.n c.run_with.ensures.particles c.self.invariant

pub returns-clause-gas : goal.returns-clause-gas
returns-clause-gas g c =
    let l = c.self.inside in
    let leaves : ℕ → Leaves = λ k. left_by l.ports (l.tick +ℤ pos k +ℤ pos 1) in
    let tick : c.unwrap.result ≡ c.self.inside.tick +ℤ pos c.args.n = chosen _ _ _ (sym c.unwrap.ensures ∙ c.ahead.ensures) in
    let particles : c.run_with.new.particles ≡ after_with (parity l.tick) (joined l.solids.walls l.solids.obstacles) leaves l.particles c.args.n =
    c.run_with.ensures.particles ∙ ap (λ p. after_with p (joined l.solids.walls l.solids.obstacles) leaves l.particles c.args.n) c.parity-parity.ensures in
    rw (← c.self.view_is) (ap₂ (λ t (cells : Cells). gas_of t cells l.solids.walls l.solids.obstacles l.ports) tick particles)

pub returns-clause-took : goal.returns-clause-took
returns-clause-took g c =
    let l = c.self.inside in
    let leaves : ℕ → Leaves = λ k. left_by l.ports (l.tick +ℤ pos k +ℤ pos 1) in
    subst (λ (was : Gas). c.run_with.result.took ≡ steps_take c.args.n was) c.self.view_is (ap (λ (f : Flow). f.took) (c.run_with.ensures.flow ∙ ap (λ p. flow_with p l.solids.walls l.solids.obstacles leaves l.particles c.args.n) c.parity-parity.ensures))

pub returns-clause-moved : goal.returns-clause-moved
returns-clause-moved g c =
    let l = c.self.inside in
    let leaves : ℕ → Leaves = λ k. left_by l.ports (l.tick +ℤ pos k +ℤ pos 1) in
    subst (λ (was : Gas). c.run_with.result.moved ≡ steps_move c.args.n was) c.self.view_is (ap (λ (f : Flow). f.moved) (c.run_with.ensures.flow ∙ ap (λ p. flow_with p l.solids.walls l.solids.obstacles leaves l.particles c.args.n) c.parity-parity.ensures))
