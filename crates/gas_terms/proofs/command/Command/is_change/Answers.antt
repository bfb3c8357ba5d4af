use Rattle.std.proofs.Common.{rules}
use Rattle.gas_terms.proofs.command.Command.is_change.Goals as goal

pub returns : goal.returns
returns c = search rules
