use Rattle.std.proofs.Common.{◌≡◌, ◌+◌, vec_len}
use Rattle.std.specs.List.{sum_by}
use Rattle.mutex_hall.specs.Seats.{Seat}
use Rattle.mutex_hall.proofs.hall.merged.Given as goal

abbrev pub invariant-loop-seat : goal.invariant-loop-seat
invariant-loop-seat g l =
    (l.all.parts + vec_len l.seats ≡ vec_len l.fn.seats)
    × (l.all.amount + sum_by (λ (s : Seat). s.entries) l.seats.items ≡ sum_by (λ (s : Seat). s.entries) l.fn.seats.items)

abbrev pub decreases-loop-seat : goal.decreases-loop-seat
decreases-loop-seat g l = vec_len l.seats
