use Rattle.std.proofs.Common.{rules}
use Rattle.mutex_hall.proofs.seat.HallSeat.number.Goals as goal

pub returns : goal.returns
returns g c = search rules
