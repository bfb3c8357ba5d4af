use Rattle.std.proofs.Common.{◌≡◌, ◌-◌, ◌≤◌, length}
use Rattle.phase_team.specs.Teamwork.{HasTurned}
use Rattle.phase_team.proofs.phase.crew.draw_here.Given as goal

abbrev pub invariant-loop-place : goal.invariant-loop-place
invariant-loop-place g l = record {
  same_desk : l.seat.desk ≡ l.shift.desk.now.id;
  few : length l.seat.numbers ≤ l.shift.desk.now.id.limit;
  turned : HasTurned l.shift.task l.seat.numbers l.took l.out;
}

abbrev pub decreases-loop-place : goal.decreases-loop-place
decreases-loop-place g l = l.shift.desk.now.id.limit - length l.seat.numbers
