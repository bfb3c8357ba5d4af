use Rattle.std.proofs.Common.{rules}
use Rattle.gas_talk.proofs.alone.AloneDoor.copy_gas.Goals as goal

pub returns-clause-copied : goal.returns-clause-copied
returns-clause-copied g c = search rules
