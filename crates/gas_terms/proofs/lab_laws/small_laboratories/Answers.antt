use Rattle.std.proofs.Common.{rules}
use Rattle.gas_terms.proofs.lab_laws.small_laboratories.Goals as goal

pub returns-clause-drains_bar_it_too : goal.returns-clause-drains_bar_it_too
returns-clause-drains_bar_it_too c = search rules
