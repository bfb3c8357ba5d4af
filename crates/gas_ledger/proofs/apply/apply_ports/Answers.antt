use Rattle.std.proofs.Common.{◌≡◌, ◌∙◌, ap, ℤ, arith, to_z, of_z, w64}
use Rattle.std.proofs.lemmas.Int.{ints}
use Rattle.phase_step.specs.Exchanges.{Areas, is_left}
use Rattle.gas_ledger.specs.PortLists.{due_areas}
use Rattle.phase_step.specs.Actions.{acted}
use Rattle.gas_ledger.proofs.Moving.{ported_is}
use Rattle.gas_ledger.proofs.apply.apply_ports.Goals as goal

pub returns-clause-cells : goal.returns-clause-cells
returns-clause-cells c =
    let ports = c.args.ports.now in
    let areas : ℤ → Areas = λ t. record { drains = ports.drains; sources = due_areas t ports.sources } in
    let tick : to_z w64 (of_z w64 c.get.result) ≡ c.args.tick = omega (arith, ints, c.get.ensures.value) in
    c.act_on.ensures.cells
    ∙ (ap (λ (e : Areas). acted (λ x y held. is_left held e.drains e.sources x y) c.args.plane.now) (c.exchange_at.ensures ∙ ap areas tick)
    ∙ ported_is ports c.args.tick c.args.plane.now)
