-- What a seat has seen begins what it sees after a call.
use Rattle.std.proofs.Common.{List, ◌++◌, append_assoc, ◌∙◌, Result, sym, ap, subst}
use Rattle.std.specs.declared.alloc.AllocError.{AllocError as NoMemory}
use Rattle.gas_terms.specs.Laboratory.{IsPrefix}
use Rattle.gas_terms.specs.declared.command.Command.{Command}
use Rattle.gas_terms.specs.declared.command.Entry.{Entry}
use Rattle.gas_terms.specs.declared.answer.Answer.{Answer}
use Rattle.gas_terms.specs.declared.refusal.Refusal.{Refusal}
use Rattle.gas_lab.specs.declared.door.Copied.{Copied}
use Rattle.gas_seats.specs.TurnSeats.{TurnSeatView, AsksInTurn, CopiesInTurn}
use Rattle.gas_seats.proofs.Events.{applies_extends}

-- journals that go on from one another
pub goes_on : (xs ys zs : List Entry) → IsPrefix xs ys → IsPrefix ys zs → IsPrefix xs zs
goes_on xs ys zs p q = (p.0 ++ q.0, q.1 ∙ ap (λ l. l ++ q.0) p.1 ∙ append_assoc xs p.0 q.0)

pub asked_sees_on : (old : TurnSeatView) (command : Command) (reply : Result Answer Refusal) (new : TurnSeatView) → AsksInTurn old command reply new → IsPrefix old.seen new.seen
asked_sees_on old command reply new h =
    let grown = applies_extends h.0 old.number command reply h.1 h.4 in
    goes_on old.seen h.0.journal new.seen h.2.begins (grown.added, ap (λ s. s.seen) h.5 ∙ grown.journal)

pub copied_sees_on : (old : TurnSeatView) (copied : Result Copied NoMemory) (new : TurnSeatView) → CopiesInTurn old copied new → IsPrefix old.seen new.seen
copied_sees_on old copied new h = subst (λ l. IsPrefix old.seen l) (sym (ap (λ s. s.seen) h.3)) h.1.begins
