use Rattle.std.proofs.Common.{rules}
use Rattle.phase_team.proofs.team.Team.new.Goals as goal

pub returns : goal.returns
returns g c = search rules
