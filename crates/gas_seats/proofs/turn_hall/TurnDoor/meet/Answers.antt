use Rattle.std.proofs.Common.{rules}
use Rattle.gas_seats.proofs.turn_hall.TurnDoor.meet.Goals as goal

pub returns-clause-begins : goal.returns-clause-begins
returns-clause-begins g c = search rules
