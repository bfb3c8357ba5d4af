use Rattle.std.proofs.Common.{rules}
use Rattle.gas_terms.proofs.account_laws.small_runs.Goals as goal

pub returns-clause-wall_alone : goal.returns-clause-wall_alone
returns-clause-wall_alone c = search rules
