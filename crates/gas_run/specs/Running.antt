-- What a run of the program is.
use Rattle.std.specs.Prelude.{◌≡◌, ℕ, ◌⊎◌, List, Option, Some, None}
use Rattle.gas_terms.specs.Cells.{Extent}
use Rattle.gas_terms.specs.Gas.{Gas}
use Rattle.gas_terms.specs.Laboratory.{Laboratory, opening}
use Rattle.gas_ledger.specs.Gases.{empty_gas_of_size}
use Rattle.gas_talk.specs.declared.end.SessionEnd.{SessionEnd}
use Rattle.gas_talk.specs.declared.end.SessionEnd.TheVariants.{Quit, InputEnd, ReadFault, WriteFault, BadLine, Memory, TooManyReads}
use Rattle.gas_talk.specs.Ends.{Place}
use Rattle.gas_talk.specs.LabTalk.{IsTalk}
use Rattle.gas_run.specs.declared.setup.Setup.{Setup}

-- the exit status after a session that ended so
abbrev pub status_of : SessionEnd → ℕ
status_of Quit = 0
status_of InputEnd = 0
status_of ReadFault = 1
status_of WriteFault = 1
status_of TooManyReads = 1
status_of Memory = 4
status_of BadLine = 5

-- the gas that a run starts from: the one that was given, or else one without particles, walls, obstacles and ports
abbrev pub starting_gas : Extent → Option Gas → Gas
starting_gas size (Some gas) = gas
starting_gas size None = empty_gas_of_size size

-- What a run has around it, where it is known: what the reader has still to give, what the writer holds, how many puts
-- the shelf has failed and what it has taken.
pub record Outside : Type 0 where
  pub unread : Option (List ℕ)
  pub written : Option (List ℕ)
  pub failures : ℕ
  pub shelved : Option (List (List ℕ))

-- the same of what is known of a reader, a writer and a shelf
abbrev pub outside : Option (List ℕ) → Option (List ℕ) → ℕ → Option (List (List ℕ)) → Outside
outside unread written failures shelved =
    record { unread = unread; written = written; failures = failures; shelved = shelved }

-- a laboratory and what its sessions write to and put on
abbrev pub session_place : Laboratory → Outside → Place Laboratory
session_place lab outside =
    record {
      door = lab;
      written = outside.written;
      failures = outside.failures;
      shelved = outside.shelved;
    }

-- A run is one session of seat 0 with the laboratory that opens with the start, and the status is that of its end; or
-- memory was refused for the opening, and then nothing was read, written or put.
abbrev pub Runs : Setup → Option Gas → Outside → ℕ → Outside → Type 0
Runs setup start old status new =
    ((status ≡ 4) × (new ≡ old))
    ⊎ ((end : SessionEnd) × (lab : Laboratory) × (status ≡ status_of end)
    × IsTalk 0 old.unread new.unread
    (session_place (opening (starting_gas setup.size start) setup.cap) old) end (session_place lab new))
