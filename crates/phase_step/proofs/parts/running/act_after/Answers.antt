use Rattle.std.proofs.Common.{◌∙◌, ap, subst}
use Rattle.gas_terms.specs.Cells.{Cells}
use Rattle.phase_step.specs.Exchanges.{leaves_of}
use Rattle.phase_step.specs.Parts.{own_moves, IsPartOf}
use Rattle.phase_step.proofs.ActionRuns.{acted_same}
use Rattle.phase_step.proofs.PartActs.{still_rows, still_own}
use Rattle.phase_step.proofs.parts.running.act_after.Goals as goal

pub returns-then-not-acts-clause-rows : goal.returns-then-not-acts-clause-rows
returns-then-not-acts-clause-rows g c = λ lattice is.
    still_rows (g.A.Action.leaves c.args.action.now c.args.k) c.args.part c.args.particles.now lattice 64 (c.acts.ensures c.if-not-acts.true c.args.k) is

pub returns-then-not-acts-clause-moved : goal.returns-then-not-acts-clause-moved
returns-then-not-acts-clause-moved g c = λ lattice is.
    still_own c.args.parity (g.A.Action.leaves c.args.action.now c.args.k) c.args.part c.args.particles.now lattice 64 (c.acts.ensures c.if-not-acts.true c.args.k) is

pub returns-clause-rows : goal.returns-clause-rows
returns-clause-rows g c = λ lattice is.
    subst (λ (there : Cells). IsPartOf c.args.part c.act_on_part.new.particles there 64) (acted_same (leaves_of c.after_phase.result) (g.A.Action.leaves c.args.action.now c.args.k) lattice c.after_phase.ensures) (c.act_on_part.ensures.rows lattice is)

pub returns-clause-moved : goal.returns-clause-moved
returns-clause-moved g c = λ lattice is.
    c.act_on_part.ensures.moved lattice is
    ∙ ap (own_moves c.args.part c.args.parity c.args.particles.now lattice) (acted_same (leaves_of c.after_phase.result) (g.A.Action.leaves c.args.action.now c.args.k) lattice c.after_phase.ensures)
