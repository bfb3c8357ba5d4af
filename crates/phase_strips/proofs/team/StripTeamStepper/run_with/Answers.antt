use Rattle.std.proofs.Common.{◌≡◌, ◌∙◌, subst, arith}
use Rattle.gas_terms.specs.Cells.{Cells}
use Rattle.phase_step.specs.Balance.{flow_counted}
use Rattle.phase_step.specs.WholeRuns.{dynamics, flow_all, HasRunWhole}
use Rattle.phase_step.proofs.Balances.{few_in_run, left_after}
use Rattle.phase_strips.proofs.team.StripTeamStepper.run_with.Goals as goal

pub with_missing_account-requires-clause-few : goal.with_missing_account-requires-clause-few
with_missing_account-requires-clause-few g c =
    let run = c.args.run in
    let leaves = g.A.Action.leaves run.action.now in
    let d = dynamics run.parity run.solids.now leaves in
    let flow = subst (λ (old : Cells). c.run_by_worth-flow.result ≡ flow_counted c.account_to_count-counted.result (flow_all d old run.n)) c.keep_total-before.ensures.plane c.run_by_worth-flow.ensures.flow in
    few_in_run run.parity run.solids.now.walls run.solids.now.obstacles leaves c.args.particles.now run.n c.account_to_count-counted.result c.keep_total-before.result c.keep_total-after.result c.run_by_worth-flow.result
    flow c.keep_total-before.ensures.lattice (omega arith) c.keep_total-before.ensures.bounded c.keep_total-after.ensures.bounded

pub returns : goal.returns
returns g c =
    let run = c.args.run in
    let leaves = g.A.Action.leaves run.action.now in
    let d = dynamics run.parity run.solids.now leaves in
    let made = subst (λ (old : Cells). HasRunWhole c.account_to_count-counted.result d run.n old c.run_by_worth-flow.new.particles c.run_by_worth-flow.result) c.keep_total-before.ensures.plane c.run_by_worth-flow.ensures in
    record {
      particles = c.keep_total-after.ensures.plane ∙ made.particles;
      flow = c.with_missing_account.ensures (flow_all d c.args.particles.now run.n) made.flow
          (left_after run.parity c.parity_at-end.result run.n run.solids.now.walls run.solids.now.obstacles leaves c.args.particles.now c.run_by_worth-flow.new.particles c.keep_total-before.result c.keep_total-after.result c.requires.parity c.keep_total-before.ensures.lattice.sized c.parity_at-end.ensures.parity made.particles c.keep_total-before.ensures.sums c.keep_total-after.ensures.sums);
    }
