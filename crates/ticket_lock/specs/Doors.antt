-- What a door and a note show, and what a door's calls say.
use Rattle.std.specs.Prelude.{◌≡◌, ℕ, false, List, [], ◌∷◌, Option, ◌++◌, All, Some, None, IfSome}
use mathlib.Core.List.{IsPrefix}
use Rattle.atomic_table.specs.Seated.{TableId}
use Rattle.atomic_table.specs.Table.{Me}
use Rattle.ticket_lock.specs.declared.view.View.{View}
use Rattle.ticket_lock.specs.Turns.{Has, entries_by, waiting, at_turn}

-- which lock it is a door of, its number, what it has seen of the journal, and the part of the value that never changes, if it
-- knows it
pub record DoorView (E F : Type 0) : Type 0 where
  pub lock : TableId
  pub number : ℕ
  pub seen : List E
  pub fixed : Option F

-- a door that has seen nothing
abbrev pub new_door : {E F : Type 0} → TableId → ℕ → F → DoorView E F
new_door lock number fixed = record { lock = lock; number = number; seen = []; fixed = Some fixed }

-- the seat holds no slot, draws no ticket and has no turn
abbrev pub IsIdle : {X E F : Type 0} → Me (Option X) (View E F) → Type 0
IsIdle me = (me.1 ≡ []) × (me.0.waits ≡ false) × (me.0.turn ≡ false)

-- which lock the note is of, and what was seen
pub record NoteView (E : Type 0) : Type 0 where
  pub lock : TableId
  pub seen : List E

-- a value of the lock after all that the door has seen: its journal begins with that and has no other entry of the door's number,
-- and its part that never changes is the one that the door knows
pub record Follows {X E F : Type 0} (entries : X → List E) (fixed : X → F) (by : E → ℕ)
    (door : DoorView E F) (x : X) : Type 0 where
  pub begins : IsPrefix door.seen (entries x)
  pub own : entries_by by door.number (entries x) ≡ entries_by by door.number door.seen
  pub same : door.fixed ≡ Some (fixed x)

-- y has the journal of x with entries added that all bear this number, and the same part that never changes
pub record Adds {X E F : Type 0} (entries : X → List E) (fixed : X → F) (by : E → ℕ) (number : ℕ)
    (x y : X) : Type 0 where
  pub new : List E
  pub added : entries y ≡ entries x ++ new
  pub all_own : All (λ e. by e ≡ number) new
  pub same : fixed y ≡ fixed x

-- the seat drew a ticket and took the value x at its turn, so it holds the slot, which is now empty; x follows all that the seat
-- had seen
pub record HasEntered {X E F : Type 0} (entries : X → List E) (fixed : X → F) (by : E → ℕ)
    (before after : Me (Option X) (View E F)) (x : X) : Type 0 where
  pub ticket : ℕ
  pub after_is : after ≡ (at_turn (waiting before.0 ticket) (entries x), (0, None) ∷ [])
  pub begins : IsPrefix before.0.seen (entries x)
  pub own : (number : ℕ) → Has before.0 number
      → entries_by by number (entries x) ≡ entries_by by number before.0.seen
  pub same : IfSome before.0.fixed (λ f. fixed x ≡ f)
