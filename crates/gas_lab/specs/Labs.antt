use Rattle.std.specs.Prelude.{◌≡◌, ◌≤◌, ℕ, List, true, length, Result, Ok, Err, ◌⊎◌}
use Rattle.gas_terms.specs.Gas.{Gas}
use Rattle.gas_terms.specs.Commands.{is_tick}
use Rattle.gas_terms.specs.BookedGas.{BookedGas}
use Rattle.gas_terms.specs.Laboratory.{Laboratory, most_entries, accepted, IsSound}
use Rattle.gas_terms.specs.declared.command.Command.{Command}
use Rattle.gas_terms.specs.declared.command.Entry.{Entry}
use Rattle.gas_terms.specs.declared.answer.Answer.{Answer}
use Rattle.gas_terms.specs.declared.answer.Answer.TheVariants.{Taken}
use Rattle.gas_terms.specs.declared.refusal.Refusal.{Refusal}
use Rattle.gas_terms.specs.declared.refusal.Refusal.TheVariants.{Memory}
use Rattle.gas_plane.specs.Planes.{IsLattice}

-- a laboratory of these parts
abbrev pub lab_of : Gas → ℕ → BookedGas → List Entry → Laboratory
lab_of start cap b journal =
    record { start = start; cap = cap; gas = b.gas; ledger = b.ledger; journal = journal }

-- What a laboratory's type keeps beside what the types of its parts keep.
pub record IsKept (lab : Laboratory) : Type 0 where
  pub sound : IsSound lab
  pub cap : lab.cap ≤ most_entries
  pub lattice : IsLattice lab.start.particles
  pub tick : is_tick lab.gas.tick ≡ true

-- a seat's command as an entry of the journal
abbrev pub entry_of : ℕ → Command → Entry
entry_of seat command = record { seat = seat; command = command }

-- A change is accepted whole, or memory was refused and nothing is changed.
abbrev pub Changes : Laboratory → Entry → Result Answer Refusal → Laboratory → Type 0
Changes old entry result new =
    ((result ≡ Ok (Taken (length old.journal))) × (new ≡ accepted old entry))
    ⊎ ((result ≡ Err Memory) × (new ≡ old))
