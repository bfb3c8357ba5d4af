use Rattle.std.proofs.Common.{◌≡◌, true, ap, ◌∙◌}
use Rattle.gas_terms.specs.Cells.{lies_within, extent}
use Rattle.gas_terms.specs.Gas.{Gas}
use Rattle.gas_ledger.proofs.Moving.{moved_by_clear}
use Rattle.gas_ledger.proofs.gas.Gas.clear_particles.Goals as goal

pub returns-clause-moved : goal.returns-clause-moved
returns-clause-moved c =
    let fits : lies_within (extent c.self.inside.particles) c.args.area ≡ true = ap (λ (g : Gas). lies_within (extent g.particles) c.args.area) c.self.view_is ∙ c.requires in
    rw (← c.self.view_is)
    (moved_by_clear c.self.inside.tick c.self.inside.particles c.clear.new.self c.args.area c.probe-before.result c.probe-before.ensures.lattice fits c.clear.ensures c.probe-before.ensures.sums)
