use Rattle.std.proofs.Common.{rules}
use Rattle.phase_step.proofs.exchanges.exchange.Exchange.copy.Goals as goal

pub returns : goal.returns
returns c = search rules
