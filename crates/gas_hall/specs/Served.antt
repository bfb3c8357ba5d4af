-- What contracts of a server say of its seats.
use Rattle.std.specs.Prelude.{◌≡◌, ℕ, ◌≤◌, List, length, map, All, Some, slice_get}
use Rattle.atomic_table.specs.Seated.{TableId}
use Rattle.gas_terms.specs.Gas.{Gas}
use Rattle.gas_terms.specs.Laboratory.{IsPrefix}
use Rattle.gas_terms.specs.declared.command.Entry.{Entry}
use Rattle.gas_seats.specs.TurnSeats.{TurnSeatView, but_for_seen, entries_made}
use Rattle.gas_hall.specs.Busy.{busy}

-- Seats come back in their order, when so many were served: each as it was but for what its session changed, having seen no
-- less. Those that made entries were served.
pub record ComeBack {X : Type 0} (kept : X → X) (made : X → ℕ) (seen : X → List Entry)
    (old new : List X) (done : ℕ) : Type 0 where
  pub all : length new ≡ length old
  pub most : done ≤ length old
  pub served : busy made old new ≤ done
  pub same : map kept new ≡ map kept old
  pub more : (i : ℕ) (x y : X) → slice_get old i ≡ Some x → slice_get new i ≡ Some y → IsPrefix (seen x) (seen y)

-- The same of the seats of this hall, which are still the hall's.
pub record ComeBackTo (hall : TableId) (old new : List TurnSeatView) (done : ℕ) : Type 0 where
  pub back : ComeBack but_for_seen entries_made (λ seat. seat.seen) old new done
  pub here : All (λ seat. seat.hall ≡ hall) new

-- These are so many seats with the numbers 0, 1, .. on a laboratory that opened with this gas and capacity.
pub record AreSeats (start : Gas) (cap count : ℕ) (seats : List TurnSeatView) : Type 0 where
  pub all : length seats ≡ count
  pub numbers : (i : ℕ) (seat : TurnSeatView) → slice_get seats i ≡ Some seat → seat.number ≡ i
  pub opened : All (λ seat. seat.opened ≡ Some (start, cap)) seats

-- These are the same seats, each with as many entries.
pub record AreSame (old new : List TurnSeatView) : Type 0 where
  pub all : length new ≡ length old
  pub seats : map but_for_seen new ≡ map but_for_seen old
  pub made : map entries_made new ≡ map entries_made old

-- A seat has taken in what these have seen. Nothing else of it changes, nor how many entries it made.
pub record HasMet (seats : List TurnSeatView) (old new : TurnSeatView) : Type 0 where
  pub met : All (λ seat. IsPrefix seat.seen new.seen) seats
  pub more : IsPrefix old.seen new.seen
  pub same : but_for_seen new ≡ but_for_seen old
  pub made : entries_made new ≡ entries_made old
