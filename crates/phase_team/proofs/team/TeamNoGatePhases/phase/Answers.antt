use Rattle.std.proofs.Common.{rules}
use Rattle.phase_team.proofs.team.TeamNoGatePhases.phase.Goals as goal

pub returns-then-workers-eq1-clause-out : goal.returns-then-workers-eq1-clause-out
returns-then-workers-eq1-clause-out g c = search rules
