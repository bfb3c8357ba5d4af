-- Over a door to a laboratory that nobody else uses, talk lines are those of talk.
use Rattle.std.proofs.Common.{◌≡◌, ℕ, Bool, true, false, cond, not, ◌&&◌, ◌||◌, List, [], ◌∷◌, ◌++◌, map, Option, None, is_some, Result, Ok, Err, refl, sym, ap, ◌∙◌, subst, inl, inr, append-nil, append_assoc}
use Rattle.std.specs.List.{FoldsTo}
use Rattle.std.specs.declared.alloc.AllocError.{AllocError as NoMemory}
use Rattle.gas_terms.specs.Cells.{extent}
use Rattle.gas_terms.specs.Commands.{is_change, is_row}
use Rattle.gas_terms.specs.Laboratory.{Laboratory, Applies, accepted, takes_memory, cause}
use Rattle.gas_terms.specs.declared.command.Command.{Command}
use Rattle.gas_terms.specs.declared.command.Command.TheVariants.{Row}
use Rattle.gas_terms.specs.declared.command.Entry.{Entry}
use Rattle.gas_terms.specs.declared.answer.Answer.{Answer}
use Rattle.gas_terms.specs.declared.refusal.Refusal.{Refusal}
use Rattle.gas_terms.specs.declared.refusal.Refusal.TheVariants as refusals
use Rattle.gas_snapshot.specs.Shelved.{Gains}
use Rattle.gas_lab.specs.declared.door.Copied.{Copied}
use Rattle.gas_text.specs.declared.request.Request.{Request}
use Rattle.gas_text.specs.declared.request.Request.TheVariants.{Ask, Save, Quit}
use Rattle.gas_text.specs.declared.reply.Reply.{Reply}
use Rattle.gas_text.specs.declared.reply.Reply.TheVariants.{Refused}
use Rattle.gas_talk.specs.declared.end.SessionEnd.{SessionEnd}
use Rattle.gas_text.specs.Requests.{request_of, Reads, IsRow}
use Rattle.gas_talk.specs.Lines.{Item, text, bad, lines}
use Rattle.gas_talk.specs.Talk.{Put, no_put, TalkLine, Saves, Answers, Replies, Takes, Calls}
use Rattle.gas_talk.specs.Ends.{until_end, failed_puts, failures_after, shelved_by, EndsAs, StopsAtEnd, Place, IsSession}
use Rattle.gas_lab.specs.Copying.{Copies}
use Rattle.gas_talk.specs.LabTalk.{Outcome, plain, memory, shelf, wants_memory, told, answered, saved, requested, talk_of_item, talk, IsTalk}

start_of : (b : Bool) (some other : Laboratory) → some.start ≡ other.start → (cond b some other).start ≡ other.start
start_of true some other same = same
start_of false some other same = refl

-- what a laboratory started with stays
pub start_stays : (old : Laboratory) (entry : Entry) (r : Result Answer Refusal) (new : Laboratory) → Applies old entry r new → new.start ≡ old.start
start_stays old entry r new (inl h) = ap (λ (l : Laboratory). l.start) h.1 ∙ start_of (is_change entry.command && not (is_some (cause old entry.command))) (accepted old entry) old refl
start_stays old entry r new (inr h) = ap (λ (l : Laboratory). l.start) h.3

-- an item with this outcome gives the talk line and the laboratory
abbrev pub Gives : (Outcome → TalkLine × Laboratory) → TalkLine → Laboratory → Type 0
Gives taken talk_line lab = (o : Outcome) × (taken o ≡ (talk_line, lab))

or_true : (b : Bool) → (b || true) ≡ true
or_true true = refl
or_true false = refl

wants : (lab : Laboratory) (command : Command) → takes_memory command ≡ true → cause lab command ≡ None → wants_memory lab command ≡ true
wants lab command takes none = ap (λ b. is_row command || (b && not (is_some (cause lab command)))) takes ∙ ap (λ (c : Option Refusal). is_row command || not (is_some c)) none ∙ or_true (is_row command)

row_refused : (seat : ℕ) (item : Item) (lab : Laboratory) (read : Result Request Refusal) → IsRow read → requested seat item lab read memory ≡ (record { item = item; reply = Refused refusals.Memory; put = no_put }, lab)
row_refused seat item lab (Ok (Ask (Row y bits))) h = refl
row_refused seat item lab _ h = absurd h

module _ {D : Type 0} (door : Calls D) where
  -- what no call changes stays
  module _ {X : Type 0} (x_of : D → X) (ask : (d : D) (command : Command) (r : Result Answer Refusal) (e : D) → door.asks d command r e → x_of e ≡ x_of d) (copy : (d : D) (r : Result Copied NoMemory) (e : D) → door.copies d r e → x_of e ≡ x_of d) where
    answer_stays : (d : D) (r : Result Request Refusal) (reply : Reply) (put : Put) (e : D) → Answers door d r reply put e → x_of e ≡ x_of d
    answer_stays d (Err refusal) reply put e h = ap x_of h.2
    answer_stays d (Ok Quit) reply put e h = ap x_of h.2
    answer_stays d (Ok (Ask command)) reply put e h = ask d command h.0 e h.1
    answer_stays d (Ok Save) reply put e h = copy d h.0 e h.1

    item_stays : (d : D) (item : Item) (reply : Reply) (put : Put) (e : D) → Replies door d item reply put e → x_of e ≡ x_of d
    item_stays d bad reply put e h = ap x_of h.2
    item_stays d (text line) reply put e h = answer_stays d h.0 reply put e h.2

    pub talk_line_stays : (d : D) (talk_line : TalkLine) (e : D) → Takes door d talk_line e → x_of e ≡ x_of d
    talk_line_stays d talk_line e h = item_stays d talk_line.item talk_line.reply talk_line.put e h.0

    pub stays : (d : D) (talk_lines : List TalkLine) (e : D) → FoldsTo (Takes door) d talk_lines e → x_of e ≡ x_of d
    stays d [] e h = ap x_of (sym h)
    stays d (talk_line ∷ talk_lines) e h = stays h.0 talk_lines e h.2 ∙ talk_line_stays d talk_line h.0 h.1

  -- where each call leads, many lead
  module _ (leads : D → D → Type 0) (itself : (d : D) → leads d d) (further : (d e f : D) → leads d e → leads e f → leads d f)
      (ask : (d : D) (command : Command) (r : Result Answer Refusal) (e : D) → door.asks d command r e → leads d e) (copy : (d : D) (r : Result Copied NoMemory) (e : D) → door.copies d r e → leads d e) where
    answer_leads : (d : D) (r : Result Request Refusal) (reply : Reply) (put : Put) (e : D) → Answers door d r reply put e → leads d e
    answer_leads d (Err refusal) reply put e h = subst (leads d) (sym h.2) (itself d)
    answer_leads d (Ok Quit) reply put e h = subst (leads d) (sym h.2) (itself d)
    answer_leads d (Ok (Ask command)) reply put e h = ask d command h.0 e h.1
    answer_leads d (Ok Save) reply put e h = copy d h.0 e h.1

    item_leads : (d : D) (item : Item) (reply : Reply) (put : Put) (e : D) → Replies door d item reply put e → leads d e
    item_leads d bad reply put e h = subst (leads d) (sym h.2) (itself d)
    item_leads d (text line) reply put e h = answer_leads d h.0 reply put e h.2

    pub talk_lines_lead : (d : D) (talk_lines : List TalkLine) (e : D) → FoldsTo (Takes door) d talk_lines e → leads d e
    talk_lines_lead d [] e h = subst (leads d) h (itself d)
    talk_lines_lead d (talk_line ∷ talk_lines) e h = further d h.0 e (item_leads d talk_line.item talk_line.reply talk_line.put h.0 h.1.0) (talk_lines_lead h.0 talk_lines e h.2)

  -- a list that each call adds to is added to
  pub extended : {X : Type 0} (list : D → List X)
      → ((d : D) (command : Command) (r : Result Answer Refusal) (e : D) → door.asks d command r e → (more : List X) × (list e ≡ list d ++ more))
      → ((d : D) (r : Result Copied NoMemory) (e : D) → door.copies d r e → (more : List X) × (list e ≡ list d ++ more))
      → (d : D) (talk_lines : List TalkLine) (e : D) → FoldsTo (Takes door) d talk_lines e → (more : List X) × (list e ≡ list d ++ more)
  extended list ask copy =
      talk_lines_lead (λ d e. (more : List _) × (list e ≡ list d ++ more)) (λ d. ([], sym (append-nil (list d))))
      (λ d e f p q. (p.0 ++ q.0, q.1 ∙ ap (λ l. l ++ q.0) p.1 ∙ append_assoc (list d) p.0 q.0)) ask copy

  module _ (lab_of : D → Laboratory) (seat_of : D → ℕ)
      (sizes : (d : D) → door.size_of d ≡ extent (lab_of d).start.particles)
      (applies : (d : D) (command : Command) (r : Result Answer Refusal) (e : D) → door.asks d command r e → Applies (lab_of d) (record { seat = seat_of d; command = command }) r (lab_of e))
      (copied : (d : D) (r : Result Copied NoMemory) (e : D) → door.copies d r e → Copies (lab_of d) r (lab_of e))
      (ask_keeps : (d : D) (command : Command) (r : Result Answer Refusal) (e : D) → door.asks d command r e → seat_of e ≡ seat_of d)
      (copy_keeps : (d : D) (r : Result Copied NoMemory) (e : D) → door.copies d r e → seat_of e ≡ seat_of d) where
    of_save : (d : D) (item : Item) (r : Result Copied NoMemory) (reply : Reply) (put : Put) (e : D) → Copies (lab_of d) r (lab_of e) → Saves r reply put → Gives (saved item (lab_of d)) (record { item = item; reply = reply; put = put }) (lab_of e)
    of_save d item (Err failed) reply put e same h = rw (h.0, h.1, same) (memory, refl)
    of_save d item (Ok copy) reply put e same (inl done) = rw (done.0, done.1, same.0, same.1) (plain, refl)
    of_save d item (Ok copy) reply put e same (inr h) = elim h [
      | inl failed ↦ rw (failed.0, failed.1, same.1) (shelf, refl)
      | inr refused ↦ rw (refused.0, refused.1, same.1) (memory, refl)
    ]

    of_request : (d : D) (item : Item) (r : Result Request Refusal) (reply : Reply) (put : Put) (e : D) → Answers door d r reply put e → Gives (requested (seat_of d) item (lab_of d) r) (record { item = item; reply = reply; put = put }) (lab_of e)
    of_request d item (Err refusal) reply put e h = rw (h.0, h.1, ap lab_of h.2) (plain, refl)
    of_request d item (Ok Quit) reply put e h = rw (h.0, h.1, ap lab_of h.2) (plain, refl)
    of_request d item (Ok (Ask command)) reply put e h =
        rw (h.2, h.3) (elim (applies d command h.0 e h.1) [
          | inl same ↦ rw (same.0, same.1) (plain, refl)
          | inr refused ↦ rw (refused.2, refused.3) (memory, ap (λ b. answered item (told (lab_of d) (record { seat = seat_of d; command = command }) b)) (wants (lab_of d) command refused.0 refused.1))
        ])
    of_request d item (Ok Save) reply put e h = of_save d item h.0 reply put e (copied d h.0 e h.1) h.2

    of_row : (d : D) (item : Item) (read : Result Request Refusal) (reply : Reply) (put : Put) (e : D) → IsRow read → Answers door d (Err refusals.Memory) reply put e → Gives (requested (seat_of d) item (lab_of d) read) (record { item = item; reply = reply; put = put }) (lab_of e)
    of_row d item read reply put e row h = rw (h.0, h.1, ap lab_of h.2) (memory, row_refused (seat_of d) item (lab_of d) read row)

    of_read : (d : D) (item : Item) (r read : Result Request Refusal) (reply : Reply) (put : Put) (e : D) → Reads r read → Answers door d r reply put e → Gives (requested (seat_of d) item (lab_of d) read) (record { item = item; reply = reply; put = put }) (lab_of e)
    of_read d item r read reply put e (inl same) h = of_request d item read reply put e (subst (λ x. Answers door d x reply put e) same h)
    of_read d item r read reply put e (inr refused) h = of_row d item read reply put e refused.1 (subst (λ x. Answers door d x reply put e) refused.0 h)

    of_item : (d : D) (item : Item) (reply : Reply) (put : Put) (e : D) → Replies door d item reply put e → Gives (talk_of_item (seat_of d) (lab_of d) item) (record { item = item; reply = reply; put = put }) (lab_of e)
    of_item d bad reply put e h = rw (h.0, h.1, ap lab_of h.2) (plain, refl)
    of_item d (text line) reply put e h =
        of_read d (text line) h.0 (request_of (extent (lab_of d).start.particles) line) reply put e (subst (λ size. Reads h.0 (request_of size line)) (sizes d) h.1) h.2

    talk_line_keeps : (d : D) (talk_line : TalkLine) (e : D) → Takes door d talk_line e → seat_of e ≡ seat_of d
    talk_line_keeps d talk_line e h = talk_line_stays seat_of ask_keeps copy_keeps d talk_line e h

    -- the talk lines, with an outcome for each item
    pub of_talk_lines : (d : D) (talk_lines : List TalkLine) (e : D) → FoldsTo (Takes door) d talk_lines e
        → (asked : List (Item × Outcome)) × (map (λ i. i.0) asked ≡ map (λ talk_line. talk_line.item) talk_lines) × (talk (seat_of d) (lab_of d) asked ≡ (talk_lines, lab_of e))
    of_talk_lines d [] e h = ([], refl, ap (λ l. ([], lab_of l)) h)
    of_talk_lines d (talk_line ∷ talk_lines) e h =
        let first = of_item d talk_line.item talk_line.reply talk_line.put h.0 h.1.0 in
        let rest = of_talk_lines h.0 talk_lines e h.2 in
        let told_rest : talk (seat_of d) (lab_of h.0) rest.0 ≡ (talk_lines, lab_of e) = subst (λ seat. talk seat (lab_of h.0) rest.0 ≡ (talk_lines, lab_of e)) (talk_line_keeps d talk_line h.0 h.1) rest.2 in (
          (talk_line.item, first.0) ∷ rest.0,
          ap (λ items. talk_line.item ∷ items) rest.1,
          rw (first.1, told_rest),
        )

    -- a session over the door is one with the laboratory
    pub talk_of_session : (unread_old unread_new : Option (List ℕ)) (old : Place D) (end : SessionEnd) (new : Place D) → IsSession door unread_old unread_new old end new
        → (lab : Laboratory) → lab ≡ lab_of new.door
        → IsTalk (seat_of old.door) unread_old unread_new (record { door = lab_of old.door; written = old.written; failures = old.failures; shelved = old.shelved }) end (record { door = lab; written = new.written; failures = new.failures; shelved = new.shelved })
    talk_of_session unread_old unread_new old end new s lab same =
        let t = of_talk_lines old.door s.serves.talk_lines new.door s.serves.leads.talk in
        let talk_lines : (talk (seat_of old.door) (lab_of old.door) t.0).0 ≡ s.serves.talk_lines = ap (λ (p : List TalkLine × Laboratory). p.0) t.2 in
        record {
          input = s.input;
          asked = t.0;
          later = s.serves.later;
          output = s.serves.output;
          reads = s.given;
          items = ap (λ n. until_end n (lines s.input)) (sym (sizes old.door)) ∙ s.serves.items ∙ ap (λ xs. xs ++ s.serves.later) (sym t.1);
          lab = same ∙ sym (ap (λ (p : List TalkLine × Laboratory). p.1) t.2);
          failures = s.serves.leads.failures ∙ ap (λ ts. failures_after old.failures (failed_puts ts)) (sym talk_lines);
          shelved = subst (λ ts. Gains old.shelved new.shelved (shelved_by ts)) (sym talk_lines) s.serves.leads.shelved;
          writes = s.serves.writes;
          ended = subst (λ ts. EndsAs (extent (lab_of old.door).start.particles) end (lines s.input) ts s.serves.later s.serves.output) (sym talk_lines) (subst (λ n. EndsAs n end (lines s.input) s.serves.talk_lines s.serves.later s.serves.output) (sizes old.door) s.serves.ended);
          whole = s.whole;
          count = s.reads;
          counted = s.counted;
          stops = subst (λ n. StopsAtEnd n s.reads s.input) (sizes old.door) s.stops;
        }
