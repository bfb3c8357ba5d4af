use Rattle.std.proofs.Common.{◌≡◌}
use Rattle.hall_tests.proofs.turn_doors.put_often.Given as goal

abbrev pub invariant-loop : goal.invariant-loop
invariant-loop g l = l.door.seat.hall ≡ l.hall
