use Rattle.std.proofs.Common.{rules}
use Rattle.gas_lab.proofs.lab.Lab.gas.Goals as goal

pub returns : goal.returns
returns g c = search rules
