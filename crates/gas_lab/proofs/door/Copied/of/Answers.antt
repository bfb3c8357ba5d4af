use Rattle.std.proofs.Common.{rules}
use Rattle.gas_lab.proofs.door.Copied.of.Goals as goal

pub returns : goal.returns
returns g c = search rules
