use Rattle.std.proofs.Common.{◌≡◌, ℕ, ◌+◌, ◌<◌, ◌≤◌, Some, slice_get, vec_len}
use Rattle.std.specs.Prelude.{vec_capacity}
use Rattle.mutex_hall.proofs.hall.Hall.open.Given as goal

abbrev pub invariant-loop-number : goal.invariant-loop-number
invariant-loop-number g l =
    (l.rest.parts + l.number ≡ l.seats) × (l.rest.amount ≡ 0) × (l.book.total ≡ 0)
    × (vec_len l.all ≡ l.number) × (l.seats ≤ vec_capacity l.all)
    × ((i : ℕ) → i < l.number → slice_get l.all.items i ≡ Some (record { number = i; entries = 0 }))
