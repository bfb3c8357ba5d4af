use Rattle.std.proofs.Common.{◌≡◌, ℕ, ◌-◌, ◌<◌}
use Rattle.gas_terms.specs.Cells.{Cells, HasSidesOf}
use Rattle.phase_step.specs.Parts.{part_run, IsPartOf, HasRun}
use Rattle.phase_step.specs.Runs.{parity_at}
use Rattle.phase_step.specs.WholeRuns.{dynamics, after_all}
use Rattle.phase_step.proofs.parts.running.run_part.Given as goal

abbrev pub invariant-loop-k : goal.invariant-loop-k
invariant-loop-k g l =
    let d = dynamics l.run.parity l.run.solids.now (g.A.Action.leaves l.run.action.now) in
    record {
      sides : HasSidesOf l.particles l.initial.particles;
      run : (lattice : Cells) → HasSidesOf l.run.solids.now.walls lattice → IsPartOf l.part l.initial.particles lattice (64 - l.run.parity) → HasRun (part_run l.part l.fn.counted d l.k) l.initial.particles lattice l.particles l.flow;
      ready : (lattice : Cells) (q : ℕ) → HasSidesOf l.run.solids.now.walls lattice → IsPartOf l.part l.initial.particles lattice (64 - l.run.parity) → l.k < l.run.n → q ≡ parity_at l.run.parity l.k
          → IsPartOf l.part l.particles (after_all d lattice l.k) (64 - q);
    }
