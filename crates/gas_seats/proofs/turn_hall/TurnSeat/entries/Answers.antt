use Rattle.std.proofs.Common.{rules}
use Rattle.gas_seats.proofs.turn_hall.TurnSeat.entries.Goals as goal

pub returns-clause-entries : goal.returns-clause-entries
returns-clause-entries g c = search rules
