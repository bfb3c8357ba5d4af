use Rattle.std.proofs.Common.{rules}
use Rattle.gas_terms.proofs.accounts.Pair.plus.Goals as goal

pub returns : goal.returns
returns c = search rules
