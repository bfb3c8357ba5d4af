use Rattle.std.proofs.Common.{◌≡◌, ◌-◌, ◌-ℤ◌, pos, ap, ap₂, sym, ◌∙◌, arith}
use Rattle.gas_terms.specs.Cells.{Cells, joined}
use Rattle.gas_terms.specs.Velocity.{parity}
use Rattle.gas_terms.proofs.Parity.{parity-small, parity-last}
use Rattle.phase_step.specs.Runs.{particles_after, run_takes}
use Rattle.phase_step.specs.declared.sums.flow.Flow.{Flow}
use Rattle.phase_step.proofs.ActionParts.{still_after, still_takes}
use Rattle.gas_ledger.specs.Gases.{gas_of}
use Rattle.gas_ledger.proofs.Running.{fit_after, chosen}
use Rattle.gas_ledger.proofs.gas.Gas.run_back.Goals as goal

pub invariant_of-self : goal.invariant_of-self
invariant_of-self g c =
    let l = c.self.inside in
    let p = 1 - c.parity-first.result in
    fit_after p (joined l.solids.walls l.solids.obstacles) l.particles c.run_with.new.particles l.solids.walls l.solids.obstacles l.ports c.args.n
    (c.run_with.ensures.particles ∙ still_after p (joined l.solids.walls l.solids.obstacles) l.particles c.args.n) c.self.invariant

pub returns-clause-gas : goal.returns-clause-gas
returns-clause-gas g c =
    let l = c.self.inside in
    let p = 1 - c.parity-first.result in
    let solid = joined l.solids.walls l.solids.obstacles in
    let tick : c.unwrap.result ≡ l.tick -ℤ pos c.args.n = chosen _ _ _ (sym c.unwrap.ensures ∙ c.behind.ensures) in
    let turn : p ≡ parity (l.tick -ℤ pos 1) = omega (arith, c.parity-first.ensures, parity-last l.tick, parity-small (l.tick -ℤ pos 1)) in
    let particles : c.run_with.new.particles ≡ particles_after (parity (l.tick -ℤ pos 1)) solid l.particles c.args.n =
    c.run_with.ensures.particles ∙ (still_after p solid l.particles c.args.n ∙ ap (λ p. particles_after p solid l.particles c.args.n) turn) in
    rw (← c.self.view_is) (ap₂ (λ t (cells : Cells). gas_of t cells l.solids.walls l.solids.obstacles l.ports) tick particles)

pub returns-clause-took : goal.returns-clause-took
returns-clause-took g c =
    let l = c.self.inside in
    let p = 1 - c.parity-first.result in
    let turn : p ≡ parity (l.tick -ℤ pos 1) = omega (arith, c.parity-first.ensures, parity-last l.tick, parity-small (l.tick -ℤ pos 1)) in
    rw (← c.self.view_is) (ap (λ (f : Flow). f.took) c.run_with.ensures.flow
    ∙ (still_takes p l.solids.walls l.solids.obstacles l.particles c.args.n ∙ ap (λ p. run_takes p l.solids.walls l.solids.obstacles l.particles c.args.n) turn))
