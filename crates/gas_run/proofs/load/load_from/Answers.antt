use Rattle.std.proofs.Common.{rules}
use Rattle.gas_run.proofs.load.load_from.Goals as goal

pub returns : goal.returns
returns g c = search rules
