-- What a session does over a door, line by line.
use Rattle.std.specs.Prelude.{◌≡◌, ℕ, ◌⊎◌, List, length, Result, Ok, Err}
use Rattle.gas_terms.specs.Cells.{Extent}
use Rattle.gas_snapshot.specs.Spelling.{spelling}
use Rattle.gas_snapshot.specs.declared.version.Version.TheVariants.{Two}
use Rattle.gas_lab.specs.declared.door.Copied.{Copied}
use Rattle.std.specs.declared.alloc.AllocError.{AllocError as NoMemory}
use Rattle.gas_terms.specs.declared.command.Command.{Command}
use Rattle.gas_terms.specs.declared.answer.Answer.{Answer}
use Rattle.gas_terms.specs.declared.refusal.Refusal.{Refusal}
use Rattle.gas_terms.specs.declared.refusal.Refusal.TheVariants as refusals
use Rattle.gas_text.specs.declared.request.Request.{Request}
use Rattle.gas_text.specs.declared.request.Request.TheVariants.{Ask, Save, Quit}
use Rattle.gas_text.specs.declared.reply.Reply.{Reply}
use Rattle.gas_text.specs.declared.reply.Reply.TheVariants.{Answered, Saved, Bye, Refused}
use Rattle.gas_text.specs.Requests.{request_of, Reads}
use Rattle.gas_talk.specs.Lines.{Item, text, bad}

-- the snapshot of a copy
abbrev pub snapshot : Copied → List ℕ
snapshot copied = spelling Two copied.gas

-- what a talk line does to the shelf
pub data Put : Type 0 where
  no_put : Put
  put_done : List ℕ → Put
  put_failed : Put

-- an item, the reply to it, and what is put on the shelf for it
pub record TalkLine : Type 0 where
  pub item : Item
  pub reply : Reply
  pub put : Put

abbrev pub replied : Item → Reply → Put → TalkLine
replied item reply put = record { item = item; reply = reply; put = put }

abbrev pub reply_to : Result Answer Refusal → Reply
reply_to (Ok answer) = Answered answer
reply_to (Err refusal) = Refused refusal

-- the replies to a copy that is to be saved: memory for the snapshot may be refused, and the shelf may fail
abbrev pub Saves : Result Copied NoMemory → Reply → Put → Type 0
Saves (Err e) reply put = (reply ≡ Refused refusals.Memory) × (put ≡ no_put)
Saves (Ok copied) reply put =
    ((reply ≡ Saved copied.entries (length (snapshot copied))) × (put ≡ put_done (snapshot copied)))
    ⊎ ((reply ≡ Refused refusals.Save) × (put ≡ put_failed))
    ⊎ ((reply ≡ Refused refusals.Memory) × (put ≡ no_put))

-- The calls of a door of this type: its size, how a command may be answered, and how a copy may be made. The second door is
-- the one after the call.
pub record Calls (D : Type 0) : Type 1 where
  pub size_of : D → Extent
  pub asks : D → Command → Result Answer Refusal → D → Type 0
  pub copies : D → Result Copied NoMemory → D → Type 0

-- the calls of a door with these members
abbrev pub calls : {D : Type 0} → (D → Extent) → (D → Command → Result Answer Refusal → D → Type 0)
    → (D → Result Copied NoMemory → D → Type 0) → Calls D
calls size_of asks copies = record { size_of = size_of; asks = asks; copies = copies }

module _ {D : Type 0} (door : Calls D) where
  -- from the door old a request may be replied to so, and leave the door new
  abbrev pub Requests : D → Request → Reply → Put → D → Type 0
  Requests old (Ask command) reply put new =
      (r : Result Answer Refusal) × door.asks old command r new
      × (reply ≡ reply_to r) × (put ≡ no_put)
  Requests old Save reply put new =
      (copied : Result Copied NoMemory) × door.copies old copied new × Saves copied reply put
  Requests old Quit reply put new = (reply ≡ Bye) × (put ≡ no_put) × (new ≡ old)

  -- the same for what a line was read as
  abbrev pub Answers : D → Result Request Refusal → Reply → Put → D → Type 0
  Answers old (Ok request) reply put new = Requests old request reply put new
  Answers old (Err refusal) reply put new = (reply ≡ Refused refusal) × (put ≡ no_put) × (new ≡ old)

  -- the same for an item: memory may be refused as a row is read
  abbrev pub Replies : D → Item → Reply → Put → D → Type 0
  Replies old (text line) reply put new =
      (read : Result Request Refusal)
      × Reads read (request_of (door.size_of old) line) × Answers old read reply put new
  Replies old bad reply put new = (reply ≡ Refused refusals.Line) × (put ≡ no_put) × (new ≡ old)

  -- one talk line, which leaves the size
  abbrev pub Takes : D → TalkLine → D → Type 0
  Takes old talk_line new =
      Replies old talk_line.item talk_line.reply talk_line.put new
      × (door.size_of new ≡ door.size_of old)
