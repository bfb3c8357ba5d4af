use Rattle.std.proofs.Common.{rules}
use Rattle.phase_team.proofs.team.Team.phase.Goals as goal

pub returns-in-Some-clause-took : goal.returns-in-Some-clause-took
returns-in-Some-clause-took g c = search rules
