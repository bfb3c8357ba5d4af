-- What the value under the lock keeps over a command: its size and capacity, and the total of its book.
use Rattle.std.proofs.Common.{◌≡◌, ℕ, ◌+◌, length, Result, ap, ◌∙◌, arith, length-append}
use Rattle.gas_terms.specs.Cells.{Extent, extent}
use Rattle.gas_terms.specs.Gas.{Gas}
use Rattle.gas_terms.specs.Laboratory.{Laboratory, IsSound}
use Rattle.gas_terms.specs.declared.command.Entry.{Entry}
use Rattle.gas_terms.specs.declared.answer.Answer.{Answer}
use Rattle.gas_terms.specs.declared.refusal.Refusal.{Refusal}
use Rattle.gas_seats.specs.Seats.{entries_told}
use Rattle.gas_seats.proofs.Events.{Extends}
use Rattle.mutex_hall.specs.Halls.{IsNamed}

pub named_after : (size : Extent) (cap : ℕ) (entry : Entry) (old new : Laboratory) (reply : Result Answer Refusal)
    → Extends entry old reply new → extent old.start.particles ≡ size → old.cap ≡ cap → IsSound new → IsNamed size cap new
named_after size cap entry old new reply grown same kept sound = record {
  sound = sound;
  size_is = ap (λ (g : Gas). extent g.particles) grown.start ∙ same;
  cap_is = grown.cap ∙ kept;
}

pub booked_after : (entry : Entry) (old new : Laboratory) (reply : Result Answer Refusal) (before made after : ℕ)
    → Extends entry old reply new → before ≡ length old.journal → made ≡ entries_told reply → after ≡ before + made → after ≡ length new.journal
booked_after entry old new reply before made after grown total is added =
    let long = ap length grown.journal ∙ length-append old.journal grown.added in
    let told = grown.told in
    omega (arith, total, is, added, long, told)
