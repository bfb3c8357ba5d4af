-- What contracts see of a seat of a hall on a mutex.
use Rattle.std.specs.Prelude.{ℕ, ◌+◌, List, map, Result}
use Rattle.gas_terms.specs.declared.answer.Answer.{Answer}
use Rattle.gas_terms.specs.declared.refusal.Refusal.{Refusal}
use Rattle.gas_seats.specs.Seats.{entries_told}

-- a seat's number, and how many entries of the journal it made
pub record Seat : Type 0 where
  pub number : ℕ
  pub entries : ℕ

-- the seat of this number, before it has made an entry
abbrev pub fresh_seat : ℕ → Seat
fresh_seat i = record { number = i; entries = 0 }

abbrev pub numbers : List Seat → List ℕ
numbers seats = map (λ seat. seat.number) seats

-- the seat after a reply
abbrev pub counted : Seat → Result Answer Refusal → Seat
counted seat reply = record seat { entries = seat.entries + entries_told reply }
