-- The rule of a ticket lock, and what each step tells. Word 0 counts the doors that left and word 1 the tickets that were drawn,
-- both modulo 2 ^ 64. The slot has the value, which one door at a time takes. A ticket is the number of tickets drawn before it,
-- and the ticket that is served is the number of doors that left.
use Rattle.std.specs.Prelude.{◌≡◌, ◌≢◌, ℕ, ◌+◌, ◌-◌, ◌%◌, ◌^◌, ◌<◌, ◌≤◌, true, false, ◌⊎◌, List, [], ◌∷◌, length, nat_lt, ◌==◌, if◌then◌else◌, filter, Option, Some, None, IfSome, MatchBool}
use Rattle.std.specs.List.{sum_by}
use mathlib.Core.Option as core
use mathlib.Core.List.{IsPrefix}
use lib.ListN.{get_elem?}
use Rattle.atomic_table.specs.Table.{State, Me, Step}
use Rattle.ticket_lock.specs.declared.view.View.{View}

-- how many doors a lock has at most
abbrev pub most_doors : ℕ
most_doors = 64

module _ {E : Type 0} where
  -- the longer of two lists, and the first where they are as long
  abbrev pub longer : List E → List E → List E
  longer xs ys = if nat_lt (length xs) (length ys) then ys else xs

  -- the entries that bear a number, in order
  abbrev pub entries_by : (E → ℕ) → ℕ → List E → List E
  entries_by by number entries = filter (λ e. by e == number) entries

module _ {E F : Type 0} where
  -- what is left of a note that was taken in
  abbrev pub spent : View E F
  spent = record {
    from = 0;
    count = 0;
    seen = [];
    old = [];
    told = [];
    waits = false;
    ticket = 0;
    turn = false;
    held = [];
    fixed = None;
  }

  -- the seat that stands for all numbers below `doors`, and has seen nothing
  abbrev pub newcomer : ℕ → F → View E F
  newcomer doors fixed = record spent { count = doors; fixed = Some fixed }

  -- the seat with its numbers but the first
  abbrev pub less_one : View E F → View E F
  less_one v = record v { from = v.from + 1; count = v.count - 1 }

  -- the door with the first of the seat's numbers
  abbrev pub first_door : View E F → View E F
  first_door v = record v { count = 1 }

  -- a note, which stands for no number, and has seen what the seat has seen
  abbrev pub note_of : View E F → View E F
  note_of v = record spent { seen = v.seen; fixed = v.fixed }

  -- the door v that took in the note w: it has seen the longer list, and keeps both
  abbrev pub met : View E F → View E F → View E F
  met v w = record v { seen = longer v.seen w.seen; old = v.seen; told = w.seen }

  -- the seat that drew a ticket, and waits with it
  abbrev pub waiting : View E F → ℕ → View E F
  waiting v ticket = record v { waits = true; ticket = ticket }

  -- the seat that took the value, which had this journal
  abbrev pub at_turn : View E F → List E → View E F
  at_turn v held = record v { turn = true; held = held }

  -- the seat that gave the value back, and has seen its journal
  abbrev pub leaving : View E F → List E → View E F
  leaving v seen =
      record v { seen = seen; old = seen; told = []; waits = false; turn = false; held = [] }

  -- the seat stands for the number
  abbrev pub Has : View E F → ℕ → Type 0
  Has v number = (v.from ≤ number) × (number < v.from + v.count)

module _ {E F : Type 0} (by : E → ℕ) where
  -- what a seat knows is right: what it has seen begins the journal, which has no other entry of its numbers; if it waits, its
  -- ticket is drawn and not yet served past; and if it has the turn, its ticket is the one that is served
  pub record KnowsRight (served tickets : ℕ) (journal : List E) (fixed : F)
      (v : View E F) : Type 0 where
    pub begins : IsPrefix v.seen journal
    pub old_begins : IsPrefix v.old v.seen
    pub told_begins : IsPrefix v.told v.seen
    pub own : (number : ℕ) → Has v number
        → entries_by by number journal ≡ entries_by by number v.seen
    pub own_old : (number : ℕ) → Has v number
        → entries_by by number v.seen ≡ entries_by by number v.old
    pub waits_in : v.waits ≡ true → (served ≤ v.ticket) × (v.ticket < tickets) × (0 < v.count)
    pub has_turn : v.turn ≡ true → (v.waits ≡ true) × (v.ticket ≡ served) × (v.held ≡ journal)
    pub fixed_is : IfSome v.fixed (λ f. f ≡ fixed)

  -- two seats have no number and no ticket in common
  pub record AreApart (v w : View E F) : Type 0 where
    pub numbers : (number : ℕ) → Has v number → Has w number → ⊥
    pub tickets : v.waits ≡ true → w.waits ≡ true → v.ticket ≢ w.ticket

module _ {X E F : Type 0} (entries : X → List E) (fixed : X → F) (by : E → ℕ) where
  -- what a seat knows, and the slots that it holds
  abbrev pub Chair : Type 0
  Chair = Me (Option X) (View E F)

  -- the value is at home, its entries are the journal, and no seat has the turn; or the slot is away, and some seat has the turn
  abbrev pub Slot : List E → F → List (core.Option (Option X)) → List (View E F) → Type 0
  Slot journal f homes views =
      ((x : X) × (homes ≡ core.some (Some x) ∷ []) × (entries x ≡ journal) × (fixed x ≡ f)
      × ((i : ℕ) (v : View E F) → get_elem? views i ≡ core.some v → v.turn ≡ false))
      ⊎ ((homes ≡ core.none ∷ [])
      × ((i : ℕ) × (v : View E F) × (get_elem? views i ≡ core.some v) × (v.turn ≡ true)))

  -- the rule: the words count what they should, each ticket that is drawn and not served is some seat's that waits, the slot is
  -- filled or taken at a turn, and what each seat knows is right and apart from the others
  pub record Keeps (key : ℕ × F) (s : State (Option X) (View E F)) : Type 0 where
    pub served : ℕ
    pub tickets : ℕ
    pub journal : List E
    pub words_are : s.words ≡ (served % 2 ^ 64) ∷ (tickets % 2 ^ 64) ∷ []
    pub tickets_out : served + sum_by (λ v. if v.waits then 1 else 0) s.views ≡ tickets
    pub few_doors : sum_by (λ v. v.count) s.views ≤ key.0
    pub key_fits : key.0 ≤ most_doors
    pub slot : Slot journal key.1 s.homes s.views
    pub each : (i : ℕ) (v : View E F) → get_elem? s.views i ≡ core.some v
        → KnowsRight by served tickets journal key.1 v
    pub apart : (i j : ℕ) (v w : View E F) → i ≢ j
        → get_elem? s.views i ≡ core.some v → get_elem? s.views j ≡ core.some w → AreApart by v w

  -- the seat took the value, whose journal begins with what the seat has seen, and has no other entry of its numbers
  abbrev pub Enters : Chair → Chair → Type 0
  Enters before after =
      (x : X) × (after ≡ (at_turn before.0 (entries x), (0, Some x) ∷ before.1))
      × IsPrefix before.0.seen (entries x)
      × ((number : ℕ) → Has before.0 number
      → entries_by by number (entries x) ≡ entries_by by number before.0.seen)
      × IfSome before.0.fixed (λ f. fixed x ≡ f)

  -- the seat takes the value where its ticket is the one that was found, and else stays as it is
  abbrev pub Served : Step (Option X) → Chair → ℕ → Chair → Type 0
  Served s before found after =
      MatchBool (found == before.0.ticket % 2 ^ 64) (Enters before after) (after ≡ before)

  -- the seat has seen the journal of the value that it gave back
  abbrev pub Left : Step (Option X) → Chair → ℕ → Chair → Type 0
  Left s before found after =
      (x : X) → before.1 ≡ (0, Some x) ∷ [] → after ≡ (leaving before.0 (entries x), [])

  -- both lists that a door kept begin what it has seen, which has the entries of its numbers that the first had
  abbrev pub Looked : Step (Option X) → Chair → ℕ → Chair → Type 0
  Looked s before found after =
      (after ≡ before) × IsPrefix before.0.old before.0.seen × IsPrefix before.0.told before.0.seen
      × ((number : ℕ) → Has before.0 number
      → entries_by by number before.0.seen ≡ entries_by by number before.0.old)

module _ {X E F : Type 0} where
  -- the seat waits with the ticket that was found
  abbrev pub Ticketed : Step (Option X) → Me (Option X) (View E F) → ℕ
      → Me (Option X) (View E F) → Type 0
  Ticketed s before found after =
      (ticket : ℕ) × (ticket % 2 ^ 64 ≡ found) × (after ≡ (waiting before.0 ticket, before.1))
