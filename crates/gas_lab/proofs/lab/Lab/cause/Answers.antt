use Rattle.std.proofs.Common.{rules}
use Rattle.gas_lab.proofs.lab.Lab.cause.Goals as goal

pub returns-then-lacks_room : goal.returns-then-lacks_room
returns-then-lacks_room g c = search rules
