use Rattle.std.proofs.Common.{rules}
use Rattle.gas_terms.proofs.account_laws.undone_stretches.Goals as goal

pub returns-clause-steps_first : goal.returns-clause-steps_first
returns-clause-steps_first c = search rules
