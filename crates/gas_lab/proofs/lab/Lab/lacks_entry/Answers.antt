use Rattle.std.proofs.Common.{rules}
use Rattle.gas_lab.proofs.lab.Lab.lacks_entry.Goals as goal

pub returns-in-Entry : goal.returns-in-Entry
returns-in-Entry g c = search rules
