use Rattle.phase_team.specs.Teamwork.{HasWorked}
use Rattle.std.proofs.Common.{◌-◌, length}
use Rattle.phase_team.proofs.phase.worker.work_on.Given as goal

abbrev pub invariant-loop-seat : goal.invariant-loop-seat
invariant-loop-seat g l =
    HasWorked l.shift.task l.shift.desk.now.id (record { seat = l.seat; turned = l.turned; took = l.took })

abbrev pub decreases-loop-seat : goal.decreases-loop-seat
decreases-loop-seat g l = l.shift.desk.now.id.limit - length l.seat.numbers
