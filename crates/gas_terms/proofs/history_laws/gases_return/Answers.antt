use Rattle.gas_terms.proofs.Recurrence.{recurs}
use Rattle.gas_terms.proofs.history_laws.gases_return.Goals as goal

pub returns : goal.returns
returns c = recurs
