use Rattle.gas_text.proofs.CanonicalCommands.{command_again}
use Rattle.gas_text.proofs.reading_laws.commands_are_read_again.Goals as goal

pub returns : goal.returns
returns c = command_again
