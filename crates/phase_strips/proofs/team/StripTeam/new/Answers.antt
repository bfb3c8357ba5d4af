use Rattle.std.proofs.Common.{rules}
use Rattle.phase_strips.proofs.team.StripTeam.new.Goals as goal

pub returns : goal.returns
returns g c = search rules
