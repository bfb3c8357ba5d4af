use Rattle.std.proofs.Common.{rules}
use Rattle.gas_terms.proofs.tick.Tick.ahead.Goals as goal

pub returns : goal.returns
returns c = search rules
