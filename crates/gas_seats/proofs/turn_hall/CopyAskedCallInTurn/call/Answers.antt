use Rattle.std.proofs.Common.{rules}
use Rattle.gas_seats.proofs.turn_hall.CopyAskedCallInTurn.call.Goals as goal

pub returns-clause-does : goal.returns-clause-does
returns-clause-does g c = search rules
