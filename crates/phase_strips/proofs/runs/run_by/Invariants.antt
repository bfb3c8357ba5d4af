use Rattle.phase_step.specs.WholeRuns.{dynamics}
use Rattle.phase_strips.specs.Courses.{course_of}
use Rattle.phase_strips.proofs.runs.run_by.Given as goal

abbrev pub ghosts-run_named : goal.ghosts-run_named
ghosts-run_named g a =
    let run = a.run.now in record { course = course_of a.particles.now (dynamics run.parity run.solids.now (g.A.Action.leaves run.action.now)) a.counted }
