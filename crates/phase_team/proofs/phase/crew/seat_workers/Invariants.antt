use Rattle.std.proofs.Common.{◌≡◌, ◌+◌, All, vec_len}
use Rattle.std.specs.Vec.{vec_capacity}
use Rattle.claim_desk.specs.Desk.{fresh}
use Rattle.phase_team.specs.Teamwork.{IsFresh}
use Rattle.phase_team.proofs.phase.crew.seat_workers.Given as goal

abbrev pub invariant-loop-seat : goal.invariant-loop-seat
invariant-loop-seat l = record {
  all_seats : vec_len l.team + vec_len l.seats ≡ vec_len l.fn.seats;
  room : vec_capacity l.team ≡ vec_len l.fn.seats;
  seats_room : vec_capacity l.seats ≡ vec_capacity l.fn.seats;
  ready : All (IsFresh l.desk.id) l.team.items;
  rest_fresh : All (λ s. s ≡ fresh l.desk.id) l.seats.items;
}

abbrev pub decreases-loop-seat : goal.decreases-loop-seat
decreases-loop-seat l = vec_len l.seats
