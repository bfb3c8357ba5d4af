use Rattle.std.proofs.Common.{rules}
use Rattle.gas_terms.proofs.refusal.Refusal.number.Goals as goal

pub returns-in-Steps : goal.returns-in-Steps
returns-in-Steps c = search rules
