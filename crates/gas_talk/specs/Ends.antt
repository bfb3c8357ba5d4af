-- How a session goes: its lines with their replies, and how it ends.
use Rattle.std.specs.Prelude.{◌≡◌, ℕ, zero, suc, ◌+◌, ◌*◌, ◌^◌, ◌≤◌, ◌⊎◌, Bool, true, false, if◌then◌else◌, List, [], ◌∷◌, ◌++◌, length, map, Option, Some, None, Result, Ok, Err}
use Rattle.std.specs.List.{flat_map, sum_by, FoldsTo}
use Rattle.std.specs.Io.KnownBytes.{Consumes, Appends, IsAtEnd}
use Rattle.gas_terms.specs.Cells.{Extent}
use Rattle.gas_snapshot.specs.Shelved.{Gains, one_failure_more}
use Rattle.gas_lab.specs.declared.door.Copied.{Copied}
use Rattle.std.specs.declared.alloc.AllocError.{AllocError as NoMemory}
use Rattle.gas_terms.specs.declared.command.Command.{Command}
use Rattle.gas_terms.specs.declared.answer.Answer.{Answer}
use Rattle.gas_terms.specs.declared.refusal.Refusal.{Refusal}
use Rattle.gas_terms.specs.declared.refusal.Refusal.TheVariants as refusals
use Rattle.gas_text.specs.declared.request.Request.{Request}
use Rattle.gas_text.specs.declared.request.Request.TheVariants as requests
use Rattle.gas_text.specs.declared.reply.Reply.TheVariants.{Refused}
use Rattle.gas_text.specs.Requests.{request_of}
use Rattle.gas_text.specs.Texts.{reply_line}
use Rattle.gas_talk.specs.declared.end.SessionEnd.{SessionEnd}
use Rattle.gas_talk.specs.declared.end.SessionEnd.TheVariants.{Quit, InputEnd, ReadFault, WriteFault, BadLine, Memory, TooManyReads}
use Rattle.gas_talk.specs.Lines.{Item, text, bad, lines}
use Rattle.gas_talk.specs.Talk.{Put, no_put, put_done, put_failed, TalkLine, Takes, Calls}

abbrev pub is_quit : Result Request Refusal → Bool
is_quit (Ok (requests.Ask command)) = false
is_quit (Ok requests.Save) = false
is_quit (Ok requests.Quit) = true
is_quit (Err refusal) = false

-- the items up to and with the first that is bad or asks to quit
abbrev pub until_end : Extent → List Item → List Item
until_end size [] = []
until_end size (text line ∷ items) =
    text line ∷ (if is_quit (request_of size line) then [] else until_end size items)
until_end size (bad ∷ items) = bad ∷ []

-- how the first of these ends the session, if there is one
abbrev pub ending : Extent → List Item → Option SessionEnd
ending size [] = None
ending size (text line ∷ items) =
    if is_quit (request_of size line) then Some Quit else ending size items
ending size (bad ∷ items) = Some BadLine

abbrev pub line_of : TalkLine → List ℕ
line_of talk_line = reply_line talk_line.reply

-- the lines of the replies
abbrev pub replies : List TalkLine → List ℕ
replies talk_lines = flat_map line_of talk_lines

abbrev pub memory_line : List ℕ
memory_line = reply_line (Refused refusals.Memory)

abbrev pub bytes_put : Put → List (List ℕ)
bytes_put no_put = []
bytes_put (put_done bytes) = bytes ∷ []
bytes_put put_failed = []

abbrev pub failed_by : Put → ℕ
failed_by no_put = 0
failed_by (put_done bytes) = 0
failed_by put_failed = 1

-- what the shelf took, in order
abbrev pub shelved_by : List TalkLine → List (List ℕ)
shelved_by talk_lines = flat_map (λ talk_line. bytes_put talk_line.put) talk_lines

-- how many puts failed
abbrev pub failed_puts : List TalkLine → ℕ
failed_puts talk_lines = sum_by (λ talk_line. failed_by talk_line.put) talk_lines

-- the count of failures after more of them, which stops at its greatest value
abbrev pub failures_after : ℕ → ℕ → ℕ
failures_after old zero = old
failures_after old (suc more) = one_failure_more (failures_after old more)

-- what was written: the lines of the replies, the last of them perhaps cut short
abbrev pub IsCutShort : List TalkLine → List ℕ → Type 0
IsCutShort talk_lines written =
    (front : List TalkLine) × (last : TalkLine) × (part : List ℕ) × (rest : List ℕ)
    × (talk_lines ≡ front ++ last ∷ [])
    × (line_of last ≡ part ++ rest) × (written ≡ replies front ++ part)

-- none of these talk lines ends a session
abbrev pub AreUnended : Extent → List TalkLine → Type 0
AreUnended size talk_lines = ending size (map (λ talk_line. talk_line.item) talk_lines) ≡ None

-- the lines of the replies, and a part, perhaps all, of the line that says that the line reader found no memory
abbrev pub IsCutShortAtMemory : Extent → List TalkLine → List ℕ → Type 0
IsCutShortAtMemory size talk_lines written =
    (part : List ℕ) × (rest : List ℕ) × (memory_line ≡ part ++ rest)
    × (written ≡ replies talk_lines ++ part) × AreUnended size talk_lines

-- all items up to an end of this kind were asked, and their replies were written
abbrev pub AreAnswered : Extent → Option SessionEnd
    → List Item → List TalkLine → List Item → List ℕ → Type 0
AreAnswered size end items talk_lines later written =
    (ending size items ≡ end) × (later ≡ []) × (written ≡ replies talk_lines)

-- What holds at an end, of the items of the input, the talk lines, the items left and what was written.
abbrev pub EndsAs : Extent → SessionEnd → List Item → List TalkLine → List Item → List ℕ → Type 0
EndsAs size Quit items talk_lines later written =
    AreAnswered size (Some Quit) items talk_lines later written
EndsAs size BadLine items talk_lines later written =
    AreAnswered size (Some BadLine) items talk_lines later written
EndsAs size InputEnd items talk_lines later written =
    AreAnswered size None items talk_lines later written
EndsAs size ReadFault items talk_lines later written =
    AreAnswered size None items talk_lines later written
EndsAs size TooManyReads items talk_lines later written =
    AreAnswered size None items talk_lines later written
EndsAs size Memory items talk_lines later written =
    (written ≡ replies talk_lines ++ memory_line) × AreUnended size talk_lines
EndsAs size WriteFault items talk_lines later written =
    IsCutShort talk_lines written ⊎ IsCutShortAtMemory size talk_lines written

-- how many bytes a read asks for at most: `READ_LIMIT`
abbrev pub read_limit : ℕ
read_limit = 4096

-- how many reads gave nothing: the last one at two of the ends
abbrev pub empty_reads : SessionEnd → ℕ
empty_reads InputEnd = 1
empty_reads ReadFault = 1
empty_reads Quit = 0
empty_reads WriteFault = 0
empty_reads BadLine = 0
empty_reads Memory = 0
empty_reads TooManyReads = 0

-- how many reads a session makes at most: `READS`
abbrev pub most_reads : ℕ
most_reads = 2 ^ 24

-- So many reads were made. If another was needed, none was left. Each read but an empty one gave at least one byte of the
-- input, and at most `read_limit` bytes.
pub record AreReads (reads : ℕ) (input : List ℕ) (end : SessionEnd) : Type 0 where
  pub few : reads ≤ most_reads
  pub some : reads ≤ length input + empty_reads end
  pub short : length input + read_limit * empty_reads end ≤ read_limit * reads
  pub all : end ≡ TooManyReads → reads ≡ most_reads

-- Little is read past an end: no line ends the session in the input without a last part, which is no longer than one read. Over
-- reads of one byte each, that is the last byte.
pub record StopsAtEnd (size : Extent) (reads : ℕ) (input : List ℕ) : Type 0 where
  pub before : List ℕ
  pub last : List ℕ
  pub parts : input ≡ before ++ last
  pub earlier : reads ≤ length before + 1
  pub short : length last ≤ read_limit
  pub unended : ending size (lines before) ≡ None

-- what a session asks, writes to and puts on
pub record Place (D : Type 0) : Type 0 where
  pub door : D
  -- the bytes that the writer holds, where they are known
  pub written : Option (List ℕ)
  pub failures : ℕ
  -- what the shelf has taken, where it is known
  pub shelved : Option (List (List ℕ))

-- the place of this door, with what its writer holds and what its shelf has failed and taken
abbrev pub place : {D : Type 0} → D → Option (List ℕ) → ℕ → Option (List (List ℕ)) → Place D
place door written failures shelved =
    record { door = door; written = written; failures = failures; shelved = shelved }

-- This holds between the door before a call and the door after it, for every call.
pub record EachCall {D : Type 0} (door : Calls D) (leads : D → D → Type 0) : Type 0 where
  pub asked : (d : D) (command : Command) (reply : Result Answer Refusal) (e : D)
      → door.asks d command reply e → leads d e
  pub copied : (d : D) (copied : Result Copied NoMemory) (e : D)
      → door.copies d copied e → leads d e

module _ {D : Type 0} (door : Calls D) where
  -- these talk lines lead from one place to the other, whatever is written
  pub record Leads (old : Place D) (talk_lines : List TalkLine) (new : Place D) : Type 0 where
    pub talk : FoldsTo (Takes door) old.door talk_lines new.door
    pub failures : new.failures ≡ failures_after old.failures (failed_puts talk_lines)
    pub shelved : Gains old.shelved new.shelved (shelved_by talk_lines)

  -- A session over this input: its items, up to one that ends it, are asked in order, each once.
  pub record Serves (input : List ℕ)
      (old : Place D) (end : SessionEnd) (new : Place D) : Type 0 where
    pub talk_lines : List TalkLine
    pub later : List Item
    pub output : List ℕ
    pub leads : Leads old talk_lines new
    pub items : until_end (door.size_of old.door) (lines input)
        ≡ map (λ talk_line. talk_line.item) talk_lines ++ later
    pub writes : Appends old.written new.written output
    pub ended : EndsAs (door.size_of old.door) end (lines input) talk_lines later output

  -- The whole of it: the input is what the reads gave, and at its end nothing is left unread.
  pub record IsSession (unread_old unread_new : Option (List ℕ))
      (old : Place D) (end : SessionEnd) (new : Place D) : Type 0 where
    -- how many reads were made, and what they gave
    pub reads : ℕ
    pub input : List ℕ
    pub given : Consumes unread_old unread_new input
    pub serves : Serves input old end new
    pub whole : end ≡ InputEnd → IsAtEnd unread_new
    pub counted : AreReads reads input end
    pub stops : StopsAtEnd (door.size_of old.door) reads input

  -- This holds between the door before a session and the door after it, for every session.
  abbrev pub EachSession : (D → D → Type 0) → Type 0
  EachSession leads =
      (unread_old unread_new : Option (List ℕ)) (old : Place D) (end : SessionEnd) (new : Place D)
      → IsSession unread_old unread_new old end new → leads old.door new.door
