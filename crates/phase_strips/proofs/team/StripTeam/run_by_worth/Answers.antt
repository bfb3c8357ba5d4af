use Rattle.std.proofs.Common.{rules, subst}
use Rattle.gas_terms.specs.Cells.{Cells}
use Rattle.phase_step.specs.WholeRuns.{dynamics, HasRunWhole}
use Rattle.phase_strips.proofs.team.StripTeam.run_by_worth.Goals as goal
use Rattle.phase_strips.proofs.team.StripTeam.run_by_worth.Goals.{in-Some+in-Some-made, in-Some+in-None-made, in-None}

pub returns : goal.returns
returns g c =
    let run = c.args.run in
    let d = dynamics run.parity run.solids.now (g.A.Action.leaves run.action.now) in
    elim c.match-strips_for.branch [
      | in-Some+in-Some-made w ↦ search rules
      | in-Some+in-None-made w ↦ rw (w.particles-is, w.result-is) (subst (λ (old : Cells). HasRunWhole c.args.counted d run.n old w.run_whole-in-None-made.new.particles w.run_whole-in-None-made.result) (search rules) w.run_whole-in-None-made.ensures)
      | in-None w ↦ search rules
    ]
