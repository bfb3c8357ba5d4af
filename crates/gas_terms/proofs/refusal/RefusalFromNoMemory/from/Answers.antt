use Rattle.std.proofs.Common.{rules}
use Rattle.gas_terms.proofs.refusal.RefusalFromNoMemory.from.Goals as goal

pub returns : goal.returns
returns c = search rules
