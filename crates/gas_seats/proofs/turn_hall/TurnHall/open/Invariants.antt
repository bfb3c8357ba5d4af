use Rattle.std.proofs.Common.{◌≡◌, ℕ, ◌+◌, ◌<◌, ◌≤◌, [], Some, length, slice_get, slice_index_or, vec_len}
use Rattle.std.specs.Vec.{vec_capacity}
use Rattle.std.specs.Vec.Iter.{into_iter_items}
use Rattle.gas_seats.specs.TurnSeats.{opening_seat}
use Rattle.gas_seats.proofs.turn_hall.TurnHall.open.Given as goal

abbrev pub invariant-loop-door : goal.invariant-loop-door
invariant-loop-door g l =
    (goal.iterator-loop-door g).can_next l.door-iterator
    × (goal.iterator-loop-door g).is_finite l.door-iterator
    × (vec_len l.all + length (into_iter_items l.door-iterator) ≡ l.seats) × (l.seats ≤ vec_capacity l.all)
    × ((k : ℕ) (d : _) → k < length (into_iter_items l.door-iterator)
    → slice_index_or (into_iter_items l.door-iterator) k d ≡ record { lock = l.lock; number = vec_len l.all + k; seen = []; fixed = Some (l.fn.lab.start, l.fn.lab.cap) })
    × ((i : ℕ) → i < vec_len l.all → slice_get l.all.items i ≡ Some (opening_seat l.lock l.fn.lab i))
