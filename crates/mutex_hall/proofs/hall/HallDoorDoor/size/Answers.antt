use Rattle.std.proofs.Common.{rules}
use Rattle.mutex_hall.proofs.hall.HallDoorDoor.size.Goals as goal

pub returns : goal.returns
returns g c = search rules
