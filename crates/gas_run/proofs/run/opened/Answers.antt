use Rattle.std.proofs.Common.{rules}
use Rattle.gas_run.proofs.run.opened.Goals as goal

pub returns : goal.returns
returns g c = search rules
