-- What is known of the laboratory behind a lock.
use Rattle.std.specs.Prelude.{◌≡◌, ℕ, ◌≤◌, length, Result}
use Rattle.std.specs.declared.alloc.AllocError.{AllocError as NoMemory}
use Rattle.gas_terms.specs.Cells.{Extent, extent}
use Rattle.gas_terms.specs.Laboratory.{Laboratory, IsSound, Applies}
use Rattle.gas_terms.specs.declared.command.Command.{Command}
use Rattle.gas_terms.specs.declared.answer.Answer.{Answer}
use Rattle.gas_terms.specs.declared.refusal.Refusal.{Refusal}
use Rattle.gas_lab.specs.declared.door.Copied.{Copied}
use Rattle.gas_lab.specs.Labs.{entry_of}
use Rattle.gas_lab.specs.Copying.{Copies}
use Rattle.mutex_hall.specs.Seats.{Seat}

-- a laboratory that keeps its invariant, of this size and capacity
pub record IsNamed (size : Extent) (cap : ℕ) (lab : Laboratory) : Type 0 where
  pub sound : IsSound lab
  pub size_is : extent lab.start.particles ≡ size
  pub cap_is : lab.cap ≡ cap

-- there is such a laboratory, with no fewer entries than the seat has made, on which the seat's command was replied to so
abbrev pub AppliesToSome : Extent → ℕ → Seat → Command → Result Answer Refusal → Type 0
AppliesToSome size cap seat command reply =
    (lab : Laboratory) × (next : Laboratory) × IsNamed size cap lab × IsNamed size cap next
    × (seat.entries ≤ length lab.journal) × Applies lab (entry_of seat.number command) reply next

-- there is such a laboratory, with no fewer entries than the seat has made, of which this is the copy, unless memory was
-- refused
abbrev pub CopiesSome : Extent → ℕ → Seat → Result Copied NoMemory → Type 0
CopiesSome size cap seat copied =
    (lab : Laboratory) × IsNamed size cap lab
    × (seat.entries ≤ length lab.journal) × Copies lab copied lab
