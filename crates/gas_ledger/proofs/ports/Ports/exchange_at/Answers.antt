use Rattle.std.proofs.Common.{rules, sym, subst, to_z, of_z, w64}
use Rattle.phase_step.specs.Exchanges.{HasTilesOf}
use Rattle.gas_ledger.specs.PortLists.{PortLists, due_areas}
use Rattle.gas_ledger.proofs.MetTiles.{due_met}
use Rattle.gas_ledger.proofs.ports.Ports.exchange_at.Goals as goal

pub among-requires-clause-sources : goal.among-requires-clause-sources
among-requires-clause-sources c =
    let ports = c.self.inside in
    let tick = to_z w64 (of_z w64 c.args.tick) in
    subst (HasTilesOf ports.met) (sym c.due.ensures)
    (subst (λ (p : PortLists). HasTilesOf ports.met (due_areas tick p.sources)) c.self.view_is (due_met ports.met tick ports.sources c.self.invariant.1.sources))

pub returns : goal.returns
returns c = search rules
