use Rattle.std.proofs.Common.{rules}
use Rattle.mutex_hall.proofs.seat.HallSeat.entries.Goals as goal

pub returns-clause-entries : goal.returns-clause-entries
returns-clause-entries g c = search rules
