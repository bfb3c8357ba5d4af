-- What a seat in turn has seen after a call of its door, and how many entries it made.
use Rattle.std.proofs.Common.{◌≡◌, ℕ, suc, ◌+◌, ◌≤◌, Bool, true, cond, not, eqb, List, [], ◌∷◌, ◌++◌, All, length, length-append, IfSome, Result, refl, sym, ap, subst, ◌∙◌, arith}
use Rattle.std.specs.declared.alloc.AllocError.{AllocError as NoMemory}
use Rattle.std.proofs.lemmas.List.Elements.{filter-append}
use Rattle.std.proofs.lemmas.List.Filters.{length-filter_both}
use Rattle.ticket_lock.specs.Doors.{DoorView, Follows}
use Rattle.gas_terms.specs.Cells.{Extent, extent}
use Rattle.gas_terms.specs.Gas.{Gas}
use Rattle.gas_terms.specs.Laboratory.{Laboratory, IsSound, Applies}
use Rattle.gas_terms.specs.declared.command.Command.{Command}
use Rattle.gas_terms.specs.declared.command.Entry.{Entry}
use Rattle.gas_terms.specs.declared.answer.Answer.{Answer}
use Rattle.gas_terms.specs.declared.refusal.Refusal.{Refusal}
use Rattle.gas_lab.specs.declared.door.Copied.{Copied}
use Rattle.gas_lab.specs.Copying.{Copies}
use Rattle.gas_seats.specs.Seats.{entries_told}
use Rattle.gas_seats.specs.TurnSeats.{TurnSeatView, Continues, AsksInTurn, CopiesInTurn}
use Rattle.gas_terms.specs.Laboratory.{made_by}
use Rattle.gas_seats.proofs.Events.{applies_extends}

abbrev is_by : ℕ → Entry → Bool
is_by number e = eqb e.seat number

all_made : (number : ℕ) (xs : List Entry) → All (λ (e : Entry). e.seat ≡ number) xs → made_by number xs ≡ xs
all_made number [] all = refl
all_made number (x ∷ xs) all =
    let here : eqb x.seat number ≡ true = grind (arith, all 0 x (omega arith)) in
    ap (λ (t : Bool). cond t (x ∷ made_by number xs) (made_by number xs)) here ∙ ap (λ l. x ∷ l) (all_made number xs (λ k d lt. all (suc k) d (omega arith)))

no_more : (number : ℕ) (xs : List Entry) → length (made_by number xs) ≤ length xs
no_more number xs =
    let both = length-filter_both (is_by number) (λ e. not (is_by number e)) (λ e. refl) xs in
    omega (arith, both)

made_more : (number : ℕ) (seen before after added : List Entry) → made_by number before ≡ made_by number seen → after ≡ before ++ added
    → All (λ (e : Entry). e.seat ≡ number) added → length (made_by number after) ≡ length (made_by number seen) + length added
made_more number seen before after added same more own =
    ap (λ l. length (made_by number l)) more
    ∙ (ap length (filter-append (is_by number) before added)
    ∙ (length-append (made_by number before) (made_by number added)
    ∙ λ i. length (same i) + length (all_made number added own i)))

-- the view of a seat with this door
abbrev pub seat_of : DoorView Entry (Gas × ℕ) → ℕ → Extent → TurnSeatView
seat_of d number size = record { hall = d.lock; number = number; size = size; opened = d.fixed; seen = d.seen }

-- what a seat's type keeps of its door, its number, its size and what it made
abbrev pub Keeps : DoorView Entry (Gas × ℕ) → ℕ → Extent → ℕ → Type 0
Keeps d number size made =
    (d.number ≡ number) × IfSome d.fixed (λ opened. extent opened.0.particles ≡ size)
    × (made ≡ length (made_by number d.seen)) × (made ≤ 65536)

module _ {X : Type 0} (lab : X → Laboratory) where
  abbrev pub Found : DoorView Entry (Gas × ℕ) → X → Type 0
  Found d x = Follows (λ y. (lab y).journal) (λ y. ((lab y).start, (lab y).cap)) (λ (e : Entry). e.seat) d x

  continues : (d : DoorView Entry (Gas × ℕ)) (number : ℕ) (size : Extent) (x : X) → d.number ≡ number → IsSound (lab x) → Found d x → Continues (seat_of d number size) (lab x)
  continues d number size x same sound found = record {
    sound = sound;
    opened = found.same;
    begins = (found.begins.0, sym found.begins.1);
    own = subst (λ n. made_by n (lab x).journal ≡ made_by n d.seen) same found.own;
  }

  pub asked : (d new : DoorView Entry (Gas × ℕ)) (number made : ℕ) (size : Extent) (x y : X) (command : Command) (reply : Result Answer Refusal) (seat : TurnSeatView)
      → Keeps d number size made → seat_of d number size ≡ seat → IsSound (lab x) → IsSound (lab y) → Found d x
      → Applies (lab x) (record { seat = d.number; command = command }) reply (lab y) → new ≡ record d { seen = (lab y).journal }
      → AsksInTurn seat command reply (seat_of new number size)
  asked d new number made size x y command reply seat keeps is before after found applies now =
      subst (λ s. AsksInTurn s command reply (seat_of new number size)) is
      (lab x, lab y, continues d number size x keeps.0 before found, after, subst (λ n. Applies (lab x) (record { seat = n; command = command }) reply (lab y)) keeps.0 applies, ap (λ v. seat_of v number size) now)

  pub keeps_asking : (d new : DoorView Entry (Gas × ℕ)) (number made told : ℕ) (size : Extent) (x y : X) (command : Command) (reply : Result Answer Refusal)
      → Keeps d number size made → Found d x → length (lab y).journal ≤ 65536
      → Applies (lab x) (record { seat = d.number; command = command }) reply (lab y) → new ≡ record d { seen = (lab y).journal } → told ≡ entries_told reply
      → Keeps new number size (made + told)
  keeps_asking d new number made told size x y command reply keeps found few applies now one =
      let grown = applies_extends (lab x) number command reply (lab y) (subst (λ n. Applies (lab x) (record { seat = n; command = command }) reply (lab y)) keeps.0 applies) in
      let own = subst (λ n. made_by n (lab x).journal ≡ made_by n d.seen) keeps.0 found.own in
      let count = made_more number d.seen (lab x).journal (lab y).journal grown.added own grown.journal grown.own in
      let most = no_more number (lab y).journal in
      let tell = grown.told in
      let had = keeps.2 in
      subst (λ v. Keeps v number size (made + told)) (sym now)
      (keeps.0, keeps.1, omega (arith, had, one, tell, count), omega (arith, had, one, tell, count, most, few))

  pub copied : (d new : DoorView Entry (Gas × ℕ)) (number made : ℕ) (size : Extent) (x y : X) (copy : Result Copied NoMemory) (seat : TurnSeatView)
      → Keeps d number size made → seat_of d number size ≡ seat → IsSound (lab x) → Found d x → Copies (lab x) copy (lab y) → y ≡ x
      → new ≡ record d { seen = (lab y).journal } → CopiesInTurn seat copy (seat_of new number size)
  copied d new number made size x y copy seat keeps is sound found copies same now =
      subst (λ s. CopiesInTurn s copy (seat_of new number size)) is
      (lab x, continues d number size x keeps.0 sound found, subst (λ z. Copies (lab x) copy (lab z)) same copies, ap (λ v. seat_of v number size) (now ∙ ap (λ z. record d { seen = (lab z).journal }) same))

  pub keeps_copying : (d new : DoorView Entry (Gas × ℕ)) (number made : ℕ) (size : Extent) (x y : X)
      → Keeps d number size made → Found d x → y ≡ x → new ≡ record d { seen = (lab y).journal } → Keeps new number size made
  keeps_copying d new number made size x y keeps found same now =
      let own = subst (λ n. made_by n (lab x).journal ≡ made_by n d.seen) keeps.0 found.own in
      subst (λ v. Keeps v number size made) (sym (now ∙ ap (λ z. record d { seen = (lab z).journal }) same))
      (keeps.0, keeps.1, keeps.2 ∙ ap length (sym own), keeps.3)
