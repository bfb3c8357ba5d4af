use Rattle.std.proofs.Common.{rules}
use Rattle.phase_team.proofs.team.Team.with_least_run.Goals as goal

pub returns : goal.returns
returns g c = search rules
