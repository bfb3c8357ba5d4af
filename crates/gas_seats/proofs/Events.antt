-- What a command leaves of a laboratory: its start, its capacity, and a journal with the seat's entries that the reply tells of.
use Rattle.std.proofs.Common.{◌≡◌, ℕ, ◌++◌, Bool, true, false, cond, not, ◌&&◌, List, [], ◌∷◌, All, length, Option, Some, None, Result, Ok, Err, refl, sym, ap, ◌∙◌, inl, inr, arith}
use Rattle.std.proofs.lemmas.List.{append-nil}
use Rattle.std.proofs.lemmas.List.Elements.{All-nil, All-cons}
use Rattle.std.specs.Prelude.{is_some}
use Rattle.gas_terms.specs.Commands.{is_change}
use Rattle.gas_terms.specs.Laboratory.{Laboratory, Applies, accepted, answer, cause, judged}
use Rattle.gas_terms.specs.declared.command.Command.{Command}
use Rattle.gas_terms.specs.declared.command.Command.TheVariants.{Probe, Tally, Ledger, Read, Entry as EntryAt}
use Rattle.gas_terms.specs.declared.command.Entry.{Entry}
use Rattle.gas_terms.specs.declared.answer.Answer.{Answer}
use Rattle.gas_terms.specs.declared.answer.Answer.TheVariants.{Taken}
use Rattle.gas_terms.specs.declared.refusal.Refusal.{Refusal}
use Rattle.gas_seats.specs.Seats.{entries_told}

pub record Extends (entry : Entry) (old : Laboratory) (reply : Result Answer Refusal) (new : Laboratory) : Type 0 where
  pub start : new.start ≡ old.start
  pub cap : new.cap ≡ old.cap
  pub added : List Entry
  pub journal : new.journal ≡ old.journal ++ added
  pub own : All (λ (e : Entry). e.seat ≡ entry.seat) added
  pub told : length added ≡ entries_told reply
  pub receipt : (k : ℕ) → reply ≡ Ok (Taken k) → (k ≡ length old.journal) × (added ≡ entry ∷ [])

-- what is refused, and a reading, leaves it
left : (entry : Entry) (lab : Laboratory) (reply : Result Answer Refusal) → entries_told reply ≡ 0 → Extends entry lab reply lab
left entry lab reply none = record {
  start = refl;
  cap = refl;
  added = [];
  journal = sym (append-nil lab.journal);
  own = All-nil _;
  told = sym none;
  receipt = λ k h. absurd (let one = ap entries_told h in omega (arith, none, one));
}

more : (lab : Laboratory) (entry : Entry) (reply : Result Answer Refusal) → reply ≡ Ok (Taken (length lab.journal)) → Extends entry lab reply (accepted lab entry)
more lab entry reply is = record {
  start = refl;
  cap = refl;
  added = entry ∷ [];
  journal = refl;
  own = All-cons (λ (e : Entry). e.seat ≡ entry.seat) entry [] refl (All-nil _);
  told = sym (ap entries_told is);
  receipt = λ k h. (let same : Ok (Taken k) ≡ Ok (Taken (length lab.journal)) = sym h ∙ is in cc same, refl);
}

-- the laboratory after an entry of the command, where this stands against it or nothing does
abbrev next : Option Refusal → Laboratory → Entry → Laboratory
next why lab entry = cond (is_change entry.command && not (is_some why)) (accepted lab entry) lab

refused : (lab : Laboratory) (entry : Entry) (refusal : Refusal) (change : Bool) → Extends entry lab (Err refusal) (cond (change && false) (accepted lab entry) lab)
refused lab entry refusal true = left entry lab (Err refusal) refl
refused lab entry refusal false = left entry lab (Err refusal) refl

taken_up : (lab : Laboratory) (seat : ℕ) (command : Command)
    → Extends (record { seat = seat; command = command }) lab (Ok (answer lab command)) (next None lab (record { seat = seat; command = command }))
taken_up lab seat (Probe r) = left _ lab _ refl
taken_up lab seat Tally = left _ lab _ refl
taken_up lab seat Ledger = left _ lab _ refl
taken_up lab seat (Read y) = left _ lab _ refl
taken_up lab seat (EntryAt k) = left _ lab _ refl
taken_up lab seat _ = more lab _ _ refl

judged_extends : (why : Option Refusal) (lab : Laboratory) (seat : ℕ) (command : Command)
    → Extends (record { seat = seat; command = command }) lab (judged why (answer lab command)) (next why lab (record { seat = seat; command = command }))
judged_extends (Some refusal) lab seat command = refused lab (record { seat = seat; command = command }) refusal (is_change command)
judged_extends None lab seat command = taken_up lab seat command

pub applies_extends : (old : Laboratory) (seat : ℕ) (command : Command) (reply : Result Answer Refusal) (new : Laboratory)
    → Applies old (record { seat = seat; command = command }) reply new → Extends (record { seat = seat; command = command }) old reply new
applies_extends old seat command reply new (inl h) = rw (h.0, h.1) (judged_extends (cause old command) old seat command)
applies_extends old seat command reply new (inr h) = rw (h.2, h.3) (left _ old _ refl)
