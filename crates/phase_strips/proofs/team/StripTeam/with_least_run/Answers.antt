use Rattle.std.proofs.Common.{rules}
use Rattle.phase_strips.proofs.team.StripTeam.with_least_run.Goals as goal

pub returns : goal.returns
returns g c = search rules
