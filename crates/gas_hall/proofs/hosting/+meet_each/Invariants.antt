use Rattle.std.proofs.Common.{vec_len}
use Rattle.gas_hall.proofs.hosting.+meet_each.Given as goal

abbrev pub decreases-meet_each : goal.decreases-meet_each
decreases-meet_each g l = vec_len l.seats.now
