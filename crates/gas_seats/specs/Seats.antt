-- The numbers of a hall's seats, and what a reply counts for.
use Rattle.std.specs.Prelude.{◌≡◌, ℕ, ◌<◌, List, Some, slice_get, Result, Ok}
use Rattle.gas_terms.specs.declared.answer.Answer.{Answer}
use Rattle.gas_terms.specs.declared.answer.Answer.TheVariants.{Taken}
use Rattle.gas_terms.specs.declared.refusal.Refusal.{Refusal}

-- how many seats a hall has at most
abbrev pub most_hall_seats : ℕ
most_hall_seats = 64

-- the greatest number that an entry of the journal may tell of its seat
abbrev pub most_number : ℕ
most_number = 65535

-- the first n of a list are those of a rule, in order
abbrev pub AreNumbered : {X : Type 0} → ℕ → (ℕ → X) → List X → Type 0
AreNumbered n rule xs = (i : ℕ) → i < n → slice_get xs i ≡ Some (rule i)

-- how many entries a reply tells of
abbrev pub entries_told : Result Answer Refusal → ℕ
entries_told (Ok (Taken k)) = 1
entries_told _ = 0
