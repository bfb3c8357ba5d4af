-- What a session says to a laboratory that nobody else uses, as a function.
use Rattle.std.specs.Prelude.{◌≡◌, ℕ, Bool, true, false, not, ◌&&◌, ◌||◌, List, [], ◌∷◌, ◌++◌, length, map, Option, is_some, Result, Ok, Err}
use Rattle.std.specs.Io.KnownBytes.{Consumes, Appends, IsAtEnd}
use Rattle.std.specs.declared.alloc.AllocError.{AllocError as NoMemory}
use Rattle.gas_terms.specs.Cells.{extent}
use Rattle.gas_terms.specs.Commands.{is_row}
use Rattle.gas_terms.specs.Laboratory.{Laboratory, Applies, event, reply, cause, takes_memory}
use Rattle.gas_terms.specs.declared.command.Command.{Command}
use Rattle.gas_terms.specs.declared.command.Entry.{Entry}
use Rattle.gas_terms.specs.declared.answer.Answer.{Answer}
use Rattle.gas_terms.specs.declared.refusal.Refusal.{Refusal}
use Rattle.gas_terms.specs.declared.refusal.Refusal.TheVariants as refusals
use Rattle.gas_snapshot.specs.Shelved.{Gains}
use Rattle.gas_lab.specs.Copying.{copy_of, Copies}
use Rattle.gas_lab.specs.Labs.{entry_of}
use Rattle.gas_lab.specs.declared.door.Copied.{Copied}
use Rattle.gas_text.specs.declared.request.Request.{Request}
use Rattle.gas_text.specs.declared.request.Request.TheVariants.{Ask, Save, Quit}
use Rattle.gas_text.specs.declared.reply.Reply.TheVariants.{Saved, Bye, Refused}
use Rattle.gas_talk.specs.declared.end.SessionEnd.{SessionEnd}
use Rattle.gas_talk.specs.declared.end.SessionEnd.TheVariants.{InputEnd}
use Rattle.gas_text.specs.Requests.{request_of}
use Rattle.gas_talk.specs.Lines.{Item, text, bad, lines}
use Rattle.gas_talk.specs.Talk.{no_put, put_done, put_failed, TalkLine, replied, reply_to, snapshot, Calls}
use Rattle.gas_talk.specs.Ends.{until_end, EndsAs, AreReads, StopsAtEnd, Place, shelved_by, failed_puts, failures_after}

-- whether an item finds what it needs: memory may be refused, or the shelf may fail
pub data Outcome : Type 0 where
  plain : Outcome
  memory : Outcome
  shelf : Outcome

abbrev pub is_memory : Outcome → Bool
is_memory plain = false
is_memory memory = true
is_memory shelf = false

-- whether a command may want memory: a row as it is read, and any other where nothing else stands against it
abbrev pub wants_memory : Laboratory → Command → Bool
wants_memory lab command =
    is_row command || (takes_memory command && not (is_some (cause lab command)))

-- the reply to a command of a seat, and the laboratory then: want of memory leaves it
abbrev pub told : Laboratory → Entry → Bool → Result Answer Refusal × Laboratory
told lab entry true = (Err refusals.Memory, lab)
told lab entry false = (reply lab entry.command, event lab entry)

-- the talk line of an item that was answered so, and the laboratory then
abbrev pub answered : Item → Result Answer Refusal × Laboratory → TalkLine × Laboratory
answered item said = (replied item (reply_to said.0) no_put, said.1)

abbrev pub saved : Item → Laboratory → Outcome → TalkLine × Laboratory
saved item lab plain =
    let bytes = snapshot (copy_of lab) in
    (replied item (Saved (length lab.journal) (length bytes)) (put_done bytes), lab)
saved item lab memory = (replied item (Refused refusals.Memory) no_put, lab)
saved item lab shelf = (replied item (Refused refusals.Save) put_failed, lab)

abbrev pub requested : ℕ → Item → Laboratory → Result Request Refusal → Outcome
    → TalkLine × Laboratory
requested seat item lab (Ok (Ask command)) outcome =
    let lacks_memory = is_memory outcome && wants_memory lab command in
    answered item (told lab (entry_of seat command) lacks_memory)
requested seat item lab (Ok Save) outcome = saved item lab outcome
requested seat item lab (Ok Quit) outcome = (replied item Bye no_put, lab)
requested seat item lab (Err refusal) outcome = (replied item (Refused refusal) no_put, lab)

-- the talk line of an item of the seat, and the laboratory after it
abbrev pub talk_of_item : ℕ → Laboratory → Item → Outcome → TalkLine × Laboratory
talk_of_item seat lab (text line) outcome =
    requested seat (text line) lab (request_of (extent lab.start.particles) line) outcome
talk_of_item seat lab bad outcome = (replied bad (Refused refusals.Line) no_put, lab)

-- the talk lines of items with their outcomes, and the laboratory after them
abbrev pub talk : ℕ → Laboratory → List (Item × Outcome) → List TalkLine × Laboratory
talk seat lab [] = ([], lab)
talk seat lab (i ∷ items) =
    let first = talk_of_item seat lab i.0 i.1 in
    let rest = talk seat first.1 items in
    (first.0 ∷ rest.0, rest.1)

-- A session of a seat with a laboratory alone: its talk lines and the laboratory after it are those of talk.
pub record IsTalk (seat : ℕ) (unread_old unread_new : Option (List ℕ))
    (old : Place Laboratory) (end : SessionEnd) (new : Place Laboratory) : Type 0 where
  -- what the reads gave
  pub input : List ℕ
  -- the items that were asked, each with its outcome, and those that were not
  pub asked : List (Item × Outcome)
  pub later : List Item
  pub output : List ℕ
  pub reads : Consumes unread_old unread_new input
  pub items : until_end (extent old.door.start.particles) (lines input)
      ≡ map (λ i. i.0) asked ++ later
  pub lab : new.door ≡ (talk seat old.door asked).1
  pub failures : new.failures
      ≡ failures_after old.failures (failed_puts (talk seat old.door asked).0)
  pub shelved : Gains old.shelved new.shelved (shelved_by (talk seat old.door asked).0)
  pub writes : Appends old.written new.written output
  pub ended : EndsAs (extent old.door.start.particles) end (lines input)
      (talk seat old.door asked).0 later output
  pub whole : end ≡ InputEnd → IsAtEnd unread_new
  -- how many reads were made
  pub count : ℕ
  pub counted : AreReads count input end
  pub stops : StopsAtEnd (extent old.door.start.particles) count input

-- A door of a seat whose calls are those of a laboratory that nobody else uses.
pub record IsAlone {D : Type 0} (door : Calls D)
    (lab_of : D → Laboratory) (seat_of : D → ℕ) : Type 0 where
  pub size : (d : D) → door.size_of d ≡ extent (lab_of d).start.particles
  pub asked : (d : D) (command : Command) (reply : Result Answer Refusal) (e : D)
      → door.asks d command reply e
      → Applies (lab_of d) (entry_of (seat_of d) command) reply (lab_of e) × (seat_of e ≡ seat_of d)
  pub copied : (d : D) (copied : Result Copied NoMemory) (e : D) → door.copies d copied e
      → Copies (lab_of d) copied (lab_of e) × (seat_of e ≡ seat_of d)

-- the same place, where a door stands for its laboratory
abbrev pub lab_place : {D : Type 0} → (D → Laboratory) → Place D → Place Laboratory
lab_place lab_of place =
    record {
      door = lab_of place.door;
      written = place.written;
      failures = place.failures;
      shelved = place.shelved;
    }
