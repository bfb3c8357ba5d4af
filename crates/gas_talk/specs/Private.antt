-- Definitions that only contracts of private functions cite: what a line reader has of its input, what it finds there, and
-- how far a session has come. Callers need not read them.
use Rattle.std.specs.Prelude.{◌≡◌, ℕ, ◌<◌, ◌≤◌, ◌⊎◌, List, [], ◌∷◌, ◌++◌, length, map, Option, Some, None, Result, Ok, Err, Bool, IsTrue, string_bytes}
use Rattle.std.specs.Io.KnownBytes.{Appends, Consumes, IsAtEnd, Keeps as KeepsBytes}
use Rattle.tokio_util.specs.Codec.Next.{Resumes}
use Rattle.tokio_util.specs.Codec.Lines.{at_line_start, gives_lines}
use Rattle.gas_talk.specs.declared.end.SessionEnd.{SessionEnd}
use Rattle.gas_talk.specs.declared.end.SessionEnd.TheVariants.{WriteFault}
use Rattle.gas_talk.specs.declared.reader.LineReader.{LineReader}
use Rattle.gas_talk.specs.declared.reader.Found.{Found}
use Rattle.gas_talk.specs.declared.reader.Found.TheVariants.{Line, Bad, NoMemory as NoRoom, More}
use Rattle.gas_talk.specs.declared.reader.ReadFault.{ReadFault}
use Rattle.gas_talk.specs.declared.reader.ReadFault.TheVariants as faults
use Rattle.gas_talk.specs.Ends.{Place, replies, AreUnended, Leads, Serves, read_limit}
use Rattle.gas_talk.specs.Lines.{lines, text, bad, line_limit}
use Rattle.gas_talk.specs.Talk.{TalkLine, Calls}

-- whatever comes after them, what the reader keeps reads as these bytes at the start of a line
abbrev pub KeepsUnread : LineReader → List ℕ → Type 0
KeepsUnread r unread = Resumes gives_lines (at_line_start line_limit) unread r.codec r.buffer.items

-- how many bytes it keeps
abbrev pub kept_len : LineReader → ℕ
kept_len r = length r.buffer.items

-- what is found where these bytes are unread
abbrev pub Finds : List ℕ → Found → LineReader → Type 0
Finds unread (Line line) new =
    (rest : List ℕ) × KeepsUnread new rest
    × ((more : List ℕ) → lines (unread ++ more) ≡ text (string_bytes line) ∷ lines (rest ++ more))
Finds unread Bad new = (more : List ℕ) → lines (unread ++ more) ≡ bad ∷ []
Finds unread NoRoom new = Unit {0}
Finds unread More new = (lines unread ≡ []) × KeepsUnread new unread

-- a line that is found leaves less
abbrev pub IsShorter : Found → ℕ → ℕ → Type 0
IsShorter (Line line) old new = new < old
IsShorter Bad old new = Unit {0}
IsShorter NoRoom old new = Unit {0}
IsShorter More old new = Unit {0}

-- how many reads a call of `read_more` with this result made: if memory runs out, it does so before the read
abbrev pub reads_made : Result ℕ ReadFault → ℕ
reads_made (Ok n) = 1
reads_made (Err faults.Reader) = 1
reads_made (Err faults.NoMemory) = 0

-- A read took the next n bytes of the input, and the line reader keeps them behind what it kept.
pub record HasRead (n : ℕ) (unread_old : Option (List ℕ)) (old : LineReader)
    (unread_new : Option (List ℕ)) (new : LineReader) : Type 0 where
  pub more : List ℕ
  pub long : length more ≡ n
  pub consumes : Consumes unread_old unread_new more
  pub keeps : (unread : List ℕ) → KeepsUnread old unread → KeepsUnread new (unread ++ more)
  pub short : n ≤ read_limit
  pub end : n ≡ 0 → IsAtEnd unread_new

-- No byte was taken, and the line reader keeps what it kept.
pub record HasReadNothing (unread_old : Option (List ℕ)) (old : LineReader)
    (unread_new : Option (List ℕ)) (new : LineReader) : Type 0 where
  pub bytes : KeepsBytes unread_old unread_new
  pub keeps : (unread : List ℕ) → KeepsUnread old unread → KeepsUnread new unread

-- A part of these bytes is written, and all of them if the flag is set.
abbrev pub WritesPart : Option (List ℕ) → Option (List ℕ) → List ℕ → Bool → Type 0
WritesPart old new bytes whole =
    (part : List ℕ) × (rest : List ℕ) × (bytes ≡ part ++ rest)
    × Appends old new part × (IsTrue whole → rest ≡ [])

-- the end where the last reply is written whole, or a fault of the writer
abbrev pub EndsWith : List ℕ → SessionEnd → SessionEnd → Type 0
EndsWith missing wanted end = ((missing ≡ []) × (end ≡ wanted)) ⊎ (end ≡ WriteFault)

module _ {D : Type 0} (door : Calls D) where
  -- Within a session: each item of the input so far is taken, or is an item of what is unread.
  pub record Progress (input : List ℕ)
      (old : Place D) (reader : LineReader) (new : Place D) : Type 0 where
    pub talk_lines : List TalkLine
    pub unread : List ℕ
    pub leads : Leads door old talk_lines new
    pub keeps : KeepsUnread reader unread
    pub items : (more : List ℕ) → lines (input ++ more)
        ≡ map (λ talk_line. talk_line.item) talk_lines ++ lines (unread ++ more)
    pub unended : AreUnended (door.size_of old.door) talk_lines
    pub writes : Appends old.written new.written (replies talk_lines)

  -- each line so far is answered, or the session is over
  abbrev pub AnswersLines : List ℕ → Place D → Option SessionEnd → LineReader → Place D → Type 0
  AnswersLines input old None reader new =
      (p : Progress input old reader new) × (lines p.unread ≡ [])
  AnswersLines input old (Some end) reader new = Serves door input old end new
