-- What contracts see of a seat that takes turns and knows what it has seen, and what its calls tell.
use Rattle.std.specs.Prelude.{◌≡◌, ℕ, List, [], length, Option, Some, Result}
use Rattle.std.specs.List.{sum_by}
use Rattle.std.specs.declared.alloc.AllocError.{AllocError as NoMemory}
use Rattle.atomic_table.specs.Seated.{TableId}
use Rattle.gas_terms.specs.Cells.{Extent, extent}
use Rattle.gas_terms.specs.Gas.{Gas}
use Rattle.gas_terms.specs.Laboratory.{made_by, Laboratory, IsSound, IsPrefix, Applies}
use Rattle.gas_terms.specs.declared.command.Command.{Command}
use Rattle.gas_terms.specs.declared.command.Entry.{Entry}
use Rattle.gas_terms.specs.declared.answer.Answer.{Answer}
use Rattle.gas_terms.specs.declared.refusal.Refusal.{Refusal}
use Rattle.gas_lab.specs.declared.door.Copied.{Copied}
use Rattle.gas_lab.specs.Labs.{entry_of}
use Rattle.gas_lab.specs.Copying.{Copies}

-- which hall the seat is of, its number, how wide and high the lattice is, the gas and the capacity that the laboratory
-- opened with, and what the seat has seen of the journal
pub record TurnSeatView : Type 0 where
  pub hall : TableId
  pub number : ℕ
  pub size : Extent
  pub opened : Option (Gas × ℕ)
  pub seen : List Entry

-- the seat without what it has seen
abbrev pub but_for_seen : TurnSeatView → TurnSeatView
but_for_seen seat = record seat { seen = [] }

-- how many entries the seat made, of those that it has seen, and how many seats made in all
abbrev pub entries_made : TurnSeatView → ℕ
entries_made seat = length (made_by seat.number seat.seen)

abbrev pub made_in_all : List TurnSeatView → ℕ
made_in_all seats = sum_by entries_made seats

-- The laboratory that a seat finds: it keeps its invariant and opened as the seat knows; its journal goes on from what the
-- seat has seen, and has no other entry of the seat's.
pub record Continues (seat : TurnSeatView) (lab : Laboratory) : Type 0 where
  pub sound : IsSound lab
  pub opened : seat.opened ≡ Some (lab.start, lab.cap)
  pub begins : IsPrefix seat.seen lab.journal
  pub own : made_by seat.number lab.journal ≡ made_by seat.number seat.seen

-- the seat's command was replied to on such a laboratory, whose journal the seat then has seen
abbrev pub AsksInTurn : TurnSeatView → Command → Result Answer Refusal → TurnSeatView → Type 0
AsksInTurn old command reply new =
    (lab : Laboratory) × (next : Laboratory) × Continues old lab × IsSound next
    × Applies lab (entry_of old.number command) reply next
    × (new ≡ record old { seen = next.journal })

-- such a laboratory was copied, unless memory was refused, and the seat then has seen its journal
abbrev pub CopiesInTurn : TurnSeatView → Result Copied NoMemory → TurnSeatView → Type 0
CopiesInTurn old copied new =
    (lab : Laboratory) × Continues old lab
    × Copies lab copied lab × (new ≡ record old { seen = lab.journal })

-- the seat of this number as a hall over the laboratory opens
abbrev pub opening_seat : TableId → Laboratory → ℕ → TurnSeatView
opening_seat hall lab number =
    record {
      hall = hall;
      number = number;
      size = extent lab.start.particles;
      opened = Some (lab.start, lab.cap);
      seen = [];
    }

-- which hall the note is of, and what its seat had seen
pub record TurnNoteView : Type 0 where
  pub hall : TableId
  pub seen : List Entry
