use Rattle.std.proofs.Common.{rules}
use Rattle.gas_run.proofs.command_line.serving.Goals as goal

pub returns-in-Some : goal.returns-in-Some
returns-in-Some c = search rules
