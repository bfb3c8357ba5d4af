use Rattle.std.proofs.Common.{rules}
use Rattle.gas_lab.proofs.lab.Lab.lacks_room.Goals as goal

pub returns-then-is_change : goal.returns-then-is_change
returns-then-is_change g c = search rules
