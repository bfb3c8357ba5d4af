use Rattle.std.proofs.Common.{rules}
use Rattle.gas_run.proofs.status.Status.number.Goals as goal

pub returns-in-NotLoaded : goal.returns-in-NotLoaded
returns-in-NotLoaded c = search rules
