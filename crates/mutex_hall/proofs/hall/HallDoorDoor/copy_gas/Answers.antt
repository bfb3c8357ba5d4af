use Rattle.std.proofs.Common.{rules}
use Rattle.mutex_hall.proofs.hall.HallDoorDoor.copy_gas.Goals as goal

pub returns-clause-copied : goal.returns-clause-copied
returns-clause-copied g c = search rules
