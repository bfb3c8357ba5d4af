use Rattle.std.proofs.Common.{◌≡◌, ◌/◌, ◌%◌, ◌∙◌, ap, sym, subst, pos, arith}
use Rattle.gas_terms.specs.Accounts.{moved_by}
use Rattle.phase_step.specs.Actions.{acted}
use Rattle.phase_step.specs.Exchanges.{leaves_of}
use Rattle.phase_step.specs.Parts.{own_moves, IsPartOf}
use Rattle.phase_step.specs.declared.parts.Part.{Part}
use Rattle.phase_step.proofs.PortedSteps.{same_parity}
use Rattle.phase_step.proofs.RowRuns.{whole_held, whole_same, whole_moves}
use Rattle.phase_step.proofs.parts.running.act_on.Goals as goal
use Rattle.phase_step.proofs.parts.running.act_on.Goals.{After-whole-part}

whole : (c : After-whole-part) → IsPartOf c.whole-part.result c.args.plane.now c.args.plane.now 64
whole c = whole_held c.whole-part.result c.args.plane.now 64 c.whole-part.ensures.lattice c.whole-part.ensures.part

pub act_on_part-moved-requires-clause-some : goal.act_on_part-moved-requires-clause-some
act_on_part-moved-requires-clause-some c =
    let cells = c.args.plane.now in
    record { lattice = cells; is = whole (goal.at.act_on_part-moved-requires-clause-some c).After-whole-part }

pub returns-clause-cells : goal.returns-clause-cells
returns-clause-cells c =
    let cells = c.args.plane.now in
    let new = c.act_on_part-moved.new.particles in
    let left = acted (leaves_of c.args.exchange.now) cells in
    whole_same (cells.height / 64) 64 new left c.shows_lattice.ensures.full
    (subst (λ (part : Part). IsPartOf part new left 64) c.whole-part.ensures.part (c.act_on_part-moved.ensures.rows cells (whole (goal.at.returns-clause-cells c).After-whole-part)))

pub returns-clause-moved : goal.returns-clause-moved
returns-clause-moved c = λ tick e.
    let cells = c.args.plane.now in
    let p = c.args.parity in
    let left = acted (leaves_of c.args.exchange.now) cells in
    let small = c.requires in
    c.act_on_part-moved.ensures.moved cells (whole (goal.at.returns-clause-moved c).After-whole-part)
    ∙ (ap (λ (part : Part). own_moves part p cells cells left) c.whole-part.ensures.part
    ∙ (whole_moves p (leaves_of c.args.exchange.now) cells c.whole-part.ensures.lattice.sized
    ∙ (same_parity (pos p) tick cells left (let f : p % 2 ≡ p = omega (arith, small) in f ∙ sym e)
    ∙ ap (moved_by tick cells) (sym (returns-clause-cells c)))))
