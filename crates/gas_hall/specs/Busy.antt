-- How many seats made entries while they were served.
use Rattle.std.specs.Prelude.{ℕ, ◌+◌, ◌==◌, if◌then◌else◌, List, [], ◌∷◌}
use Rattle.gas_seats.specs.TurnSeats.{TurnSeatView, entries_made}

-- of seats before and after, in the same order: how many have another count of entries
abbrev pub busy : {X : Type 0} → (X → ℕ) → List X → List X → ℕ
busy made [] after = 0
busy made (x ∷ before) [] = 0
busy made (x ∷ before) (y ∷ after) = (if made x == made y then 0 else 1) + busy made before after

-- how many seats have made entries
abbrev pub busy_seats : List TurnSeatView → ℕ
busy_seats [] = 0
busy_seats (seat ∷ seats) = (if 0 == entries_made seat then 0 else 1) + busy_seats seats
