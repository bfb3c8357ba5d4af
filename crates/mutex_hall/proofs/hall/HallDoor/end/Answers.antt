use Rattle.std.proofs.Common.{rules}
use Rattle.mutex_hall.proofs.hall.HallDoor.end.Goals as goal

pub returns : goal.returns
returns g c = search rules
