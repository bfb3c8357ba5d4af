-- What a run of the program as a server is.
use Rattle.std.specs.Prelude.{◌≡◌, ℕ, ◌+◌, ◌≤◌, ◌⊎◌, List, [], ◌∷◌, ◌++◌, Option, codes}
use Rattle.std.specs.Fmt.{decimal}
use Rattle.std.specs.Io.KnownBytes.{Appends}
use Rattle.gas_terms.specs.Gas.{Gas}
use Rattle.gas_seats.specs.TurnSeats.{TurnSeatView, made_in_all}
use Rattle.gas_hall.specs.Busy.{busy_seats}
use Rattle.gas_hall.specs.Served.{AreSeats}
use Rattle.gas_text.specs.Words.{parted}
use Rattle.gas_run.specs.declared.setup.Setup.{Setup}

-- what is said at the end: how many seats were served and how many were not, and the entries that all made
abbrev pub served_text : ℕ → ℕ → ℕ → List ℕ
served_text done failed entries =
    parted (codes "SERVED" ∷ decimal done ∷ decimal failed ∷ decimal entries ∷ [])

abbrev pub served_line : ℕ → ℕ → ℕ → List ℕ
served_line done failed entries = served_text done failed entries ++ 10 ∷ []

-- What is told: each seat was served or was not, and those that made entries were. The entries are those that the seats made
-- in all, for which the journal had room. The line was written whole.
pub record IsTold (setup : Setup) (start : Gas) (count : ℕ) (old new : Option (List ℕ)) : Type 0
  where
    pub done : ℕ
    pub failed : ℕ
    pub entries : ℕ
    pub seats : List TurnSeatView
    pub each : done + failed ≡ count
    pub busy : busy_seats seats ≤ done
    pub back : AreSeats start setup.cap count seats
    pub sum : entries ≡ made_in_all seats
    pub room : entries ≤ setup.cap
    pub written : Appends old new (served_line done failed entries)

-- What was served was told; or memory was refused for the opening, and nothing was written; or, with status 1, writing failed.
abbrev pub ServesHall : Setup → Gas → ℕ → Option (List ℕ) → ℕ → Option (List ℕ) → Type 0
ServesHall setup start count old status new =
    ((status ≡ 0) × IsTold setup start count old new) ⊎ ((status ≡ 4) × (new ≡ old)) ⊎ (status ≡ 1)
