use Rattle.std.proofs.Common.{◌≡◌, ◌+◌, ◌*◌, ◌<◌, ◌≤◌, All, length, vec_len}
use Rattle.std.specs.List.{count_by}
use Rattle.std.specs.Vec.{vec_capacity}
use Rattle.gas_terms.specs.Cells.{tile_count}
use Rattle.phase_team.specs.Teamwork.{HasWorked, HasTurned, drawn}
use Rattle.phase_team.proofs.phase.crew.hand_in.Given as goal

abbrev pub invariant-loop-worker : goal.invariant-loop-worker
invariant-loop-worker l = record {
  all_seats : vec_len l.seats + vec_len l.team ≡ vec_len l.fn.seats + vec_len l.fn.team;
  room : vec_capacity l.seats ≡ vec_capacity l.fn.seats;
  same_desk : All (λ s. s.desk ≡ l.shift.desk.now.id) l.seats.items;
  some_ended : 0 < count_by (λ s. s.ended) l.seats.items;
  worked : All (HasWorked l.shift.task l.shift.desk.now.id) l.team.items;
  few : length (drawn l.seats.items) ≤ vec_len l.seats * tile_count l.shift.task.old.now;
  turned : HasTurned l.shift.task (drawn l.seats.items) l.took l.out;
}

abbrev pub decreases-loop-worker : goal.decreases-loop-worker
decreases-loop-worker l = goal.left-loop-worker l
