use Rattle.std.proofs.Common.{◌≡◌, ℕ, ◌∙◌, ◌++◌, ◌∷◌, [], List, length, length-append, Some, slice_get, refl, ap, arith}
use Rattle.gas_terms.specs.Laboratory.{IsPrefix}
use Rattle.gas_terms.specs.declared.command.Entry.{Entry}
use Rattle.gas_seats.proofs.Events.{applies_extends}
use Rattle.gas_seats.proofs.Numbered.{at_end, before_end}
use Rattle.gas_seats.proofs.Seeing.{asked_sees_on}
use Rattle.gas_seats.proofs.receipts.receipts_hold.Goals as goal

stands : (journal new later : List Entry) (entry : Entry) (k : ℕ) → new ≡ journal ++ entry ∷ [] → k ≡ length journal → IsPrefix new later → slice_get later k ≡ Some entry
stands journal new later entry k is at p =
    let long = length-append journal (entry ∷ []) in
    rw (p.1, is, at) (before_end (journal ++ entry ∷ []) p.0 (length journal) (omega (arith, long)) ∙ at_end journal entry)

pub returns-clause-asks : goal.returns-clause-asks
returns-clause-asks c old new command reply h = asked_sees_on old command reply new h

pub returns-clause-entry : goal.returns-clause-entry
returns-clause-entry c old new command k later h p =
    let grown = applies_extends h.0 old.number command _ h.1 h.4 in
    let receipt = grown.receipt k refl in
    stands h.0.journal new.seen later _ k (ap (λ s. s.seen) h.5 ∙ grown.journal ∙ ap (λ l. h.0.journal ++ l) receipt.1) receipt.0 p
