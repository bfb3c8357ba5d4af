use Rattle.std.proofs.Common.{rules}
use Rattle.gas_run.proofs.run.status_of.Goals as goal

pub returns-in-Memory : goal.returns-in-Memory
returns-in-Memory c = search rules
