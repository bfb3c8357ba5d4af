use Rattle.std.proofs.Common.{rules}
use Rattle.gas_terms.proofs.accounts.Sums.plus.Goals as goal

pub returns : goal.returns
returns c = search rules

pub overflow_add-result-3 : goal.overflow_add-result-3
overflow_add-result-3 c = search rules
