use Rattle.phase_step.proofs.RunSteps.{forward_run, whole_run, back_run}
use Rattle.phase_step.proofs.PortedSteps.{ported_run}
use Rattle.phase_step.proofs.laws.runs_are_steps.Goals as goal

pub returns-clause-forward : goal.returns-clause-forward
returns-clause-forward c = forward_run

pub returns-clause-back : goal.returns-clause-back
returns-clause-back c = back_run

pub returns-clause-whole : goal.returns-clause-whole
returns-clause-whole c = λ n b torus none. whole_run n b (record { torus = torus; no_ports = none })

pub returns-clause-ported : goal.returns-clause-ported
returns-clause-ported c = ported_run
