use Rattle.std.proofs.Common.{rules}
use Rattle.gas_terms.proofs.command.Command.copy.Goals as goal

pub returns-clause-same : goal.returns-clause-same
returns-clause-same c = search rules
