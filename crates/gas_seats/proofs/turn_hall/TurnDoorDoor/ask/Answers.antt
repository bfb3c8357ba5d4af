use Rattle.std.proofs.Common.{rules}
use Rattle.gas_seats.proofs.turn_hall.TurnDoorDoor.ask.Goals as goal

pub returns-clause-asked : goal.returns-clause-asked
returns-clause-asked g c = search rules
