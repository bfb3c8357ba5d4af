use Rattle.std.proofs.Common.{rules}
use Rattle.gas_talk.proofs.alone.AloneDoor.size.Goals as goal

pub returns : goal.returns
returns g c = search rules
