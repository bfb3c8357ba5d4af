use Rattle.std.proofs.Common.{rules}
use Rattle.gas_lab.proofs.lab.Lab.journal.Goals as goal

pub returns-clause-journal : goal.returns-clause-journal
returns-clause-journal g c = search rules
