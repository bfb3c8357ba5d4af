use Rattle.std.proofs.Common.{rules}
use Rattle.gas_seats.proofs.turn_hall.TurnSeat.number.Goals as goal

pub returns : goal.returns
returns g c = search rules
