-- How a session comes on, line by line, and what holds at each of its ends.
use Rattle.std.proofs.Common.{◌≡◌, ◌≢◌, ℕ, ◌+◌, true, false, cond, List, [], ◌∷◌, ◌++◌, Option, Some, None, refl, sym, ap, ◌∙◌, subst, inl, inr, append_assoc, append-nil}
use Rattle.std.proofs.lemmas.Fn.{FoldsTo-push}
use Rattle.std.proofs.KnownBytes.{Appends-nil, Appends-trans}
use Rattle.std.specs.List.{FoldsTo}
use Rattle.std.specs.Io.KnownBytes.{Appends}
use Rattle.gas_snapshot.specs.Shelved.{Gains}
use Rattle.gas_terms.specs.declared.refusal.Refusal.TheVariants as refusals
use Rattle.gas_text.specs.declared.reply.Reply.{Reply}
use Rattle.gas_text.specs.declared.reply.Reply.TheVariants.{Refused}
use Rattle.gas_text.specs.Requests.{request_of}
use Rattle.gas_text.specs.Texts.{reply_line}
use Rattle.gas_talk.specs.declared.end.SessionEnd.{SessionEnd}
use Rattle.gas_talk.specs.declared.end.SessionEnd.TheVariants.{Quit, WriteFault, BadLine, Memory}
use Rattle.gas_talk.specs.declared.reader.LineReader.{LineReader}
use Rattle.gas_talk.specs.Lines.{Item, text, bad, lines}
use Rattle.gas_talk.specs.Private.{KeepsUnread, EndsWith, Progress, AnswersLines}
use Rattle.gas_talk.specs.Talk.{Put, no_put, TalkLine, Takes, Calls}
use Rattle.gas_talk.specs.Ends.{is_quit, until_end, ending, line_of, replies, memory_line, bytes_put, failed_by, failures_after, EndsAs, Place, Leads, Serves, IsSession}
use Rattle.gas_talk.proofs.Cutting.{lines_nil}
use Rattle.gas_talk.proofs.Sending.{sent_whole}
use Rattle.gas_talk.proofs.Steps.{items_of_talk_lines, ending-append, until_end-append, items_push, replies_push, shelved_push, failed_push, failures_more, Gains-nil, Gains-trans}

module _ {D : Type 0} (door : Calls D) where
  -- one talk line, whatever is written
  pub record IsStep (now : Place D) (talk_line : TalkLine) (next : Place D) : Type 0 where
    pub takes : Takes door now.door talk_line next.door
    pub failures : next.failures ≡ failures_after now.failures (failed_by talk_line.put)
    pub shelved : Gains now.shelved next.shelved (bytes_put talk_line.put)

  Leads-nil : (old : Place D) → Leads door old [] old
  Leads-nil old = record { talk = refl; failures = refl; shelved = Gains-nil old.shelved }

  Leads-push : (old : Place D) (talk_lines : List TalkLine) (now : Place D) (talk_line : TalkLine) (next : Place D) → Leads door old talk_lines now → IsStep now talk_line next → Leads door old (talk_lines ++ talk_line ∷ []) next
  Leads-push old talk_lines now talk_line next leads step = record {
    talk = FoldsTo-push (Takes door) old.door talk_lines now.door talk_line next.door leads.talk step.takes;
    failures = step.failures ∙ ap (λ n. failures_after n (failed_by talk_line.put)) leads.failures ∙ failures_more old.failures _ talk_line.put ∙ ap (failures_after old.failures) (sym (failed_push talk_lines talk_line));
    shelved = subst (Gains old.shelved next.shelved) (sym (shelved_push talk_lines talk_line)) (Gains-trans old.shelved now.shelved next.shelved _ _ leads.shelved step.shelved);
  }

  -- no talk line changes the size
  pub Leads-size : (old : D) (talk_lines : List TalkLine) (new : D) → FoldsTo (Takes door) old talk_lines new → door.size_of new ≡ door.size_of old
  Leads-size old [] new h = ap door.size_of (sym h)
  Leads-size old (talk_line ∷ talk_lines) new h = Leads-size h.0 talk_lines new h.2 ∙ h.1.1

  -- before the first read
  pub Progress_start : (old : Place D) (reader : LineReader) → KeepsUnread reader [] → AnswersLines door [] old None reader old
  Progress_start old reader keeps = (
    record {
      talk_lines = [];
      unread = [];
      leads = Leads-nil old;
      keeps = keeps;
      items = λ more. refl;
      unended = refl;
      writes = Appends-nil old.written;
    },
    lines_nil,
  )

  -- a read
  pub Progress_read : (input : List ℕ) (old : Place D) (reader : LineReader) (now : Place D) (bytes : List ℕ) (after : LineReader) → Progress door input old reader now → ((unread : List ℕ) → KeepsUnread reader unread → KeepsUnread after (unread ++ bytes)) → Progress door (input ++ bytes) old after now
  Progress_read input old reader now bytes after p reads = record {
    talk_lines = p.talk_lines;
    unread = p.unread ++ bytes;
    leads = p.leads;
    keeps = reads p.unread p.keeps;
    items = λ more. ap lines (append_assoc input bytes more) ∙ p.items (bytes ++ more) ∙ ap (λ xs. items_of_talk_lines p.talk_lines ++ lines xs) (sym (append_assoc p.unread bytes more));
    unended = p.unended;
    writes = p.writes;
  }

  -- the items of all the input so far
  all_items : (input : List ℕ) (old : Place D) (reader : LineReader) (now : Place D) (p : Progress door input old reader now) → lines input ≡ items_of_talk_lines p.talk_lines ++ lines p.unread
  all_items input old reader now p = ap lines (sym (append-nil input)) ∙ p.items [] ∙ ap (λ xs. items_of_talk_lines p.talk_lines ++ lines xs) (append-nil p.unread)

  -- what they are up to the end, by those of what is unread
  items_until_end : (input : List ℕ) (old : Place D) (reader : LineReader) (now : Place D) (p : Progress door input old reader now) (items : List Item) → lines p.unread ≡ items → until_end (door.size_of old.door) (lines input) ≡ items_of_talk_lines p.talk_lines ++ until_end (door.size_of old.door) items
  items_until_end input old reader now p items e =
      ap (until_end (door.size_of old.door)) (all_items input old reader now p ∙ ap (λ xs. items_of_talk_lines p.talk_lines ++ xs) e)
      ∙ until_end-append (door.size_of old.door) (items_of_talk_lines p.talk_lines) items p.unended

  pub ending_is : (input : List ℕ) (old : Place D) (reader : LineReader) (now : Place D) (p : Progress door input old reader now) (items : List Item) → lines p.unread ≡ items → ending (door.size_of old.door) (lines input) ≡ ending (door.size_of old.door) items
  ending_is input old reader now p items e =
      ap (ending (door.size_of old.door)) (all_items input old reader now p ∙ ap (λ xs. items_of_talk_lines p.talk_lines ++ xs) e)
      ∙ ending-append (door.size_of old.door) (items_of_talk_lines p.talk_lines) items p.unended

  one_more : (talk_lines : List TalkLine) (talk_line : TalkLine) (later : List Item) → items_of_talk_lines talk_lines ++ talk_line.item ∷ later ≡ items_of_talk_lines (talk_lines ++ talk_line ∷ []) ++ later
  one_more talk_lines talk_line later = sym (append_assoc (items_of_talk_lines talk_lines) (talk_line.item ∷ []) later) ∙ ap (λ xs. xs ++ later) (sym (items_push talk_lines talk_line))

  -- the lines so far, and a part of the next
  writes_more : (old now next : Option (List ℕ)) (talk_lines : List TalkLine) (part : List ℕ) → Appends old now (replies talk_lines) → Appends now next part → Appends old next (replies talk_lines ++ part)
  writes_more old now next talk_lines part first second = Appends-trans old now next (replies talk_lines) part first second

  abbrev wrote : Place D → Option (List ℕ) → Place D
  wrote now written = record { door = now.door; written = written; failures = now.failures; shelved = now.shelved }

  head_line : (unread rest : List ℕ) (item : Item) → ((more : List ℕ) → lines (unread ++ more) ≡ item ∷ lines (rest ++ more)) → lines unread ≡ item ∷ lines rest
  head_line unread rest item found = ap lines (sym (append-nil unread)) ∙ found [] ∙ ap (λ xs. item ∷ lines xs) (append-nil rest)

  head_bad : (unread : List ℕ) → ((more : List ℕ) → lines (unread ++ more) ≡ bad ∷ []) → lines unread ≡ bad ∷ []
  head_bad unread found = ap lines (sym (append-nil unread)) ∙ found []

  push_writes : (old now next : Option (List ℕ)) (talk_lines : List TalkLine) (talk_line : TalkLine) → Appends old now (replies talk_lines) → Appends now next (line_of talk_line) → Appends old next (replies (talk_lines ++ talk_line ∷ []))
  push_writes old now next talk_lines talk_line first second = subst (Appends old next) (sym (replies_push talk_lines talk_line)) (writes_more old now next talk_lines (line_of talk_line) first second)

  module _ (input : List ℕ) (old : Place D) (reader : LineReader) (now : Place D) (p : Progress door input old reader now) where
    -- a line that is answered, and the session goes on
    pub Progress_line : (bytes : List ℕ) (reply : Reply) (put : Put) (after : LineReader) (rest : List ℕ) (next : Place D)
        → KeepsUnread after rest → ((more : List ℕ) → lines (p.unread ++ more) ≡ text bytes ∷ lines (rest ++ more))
        → is_quit (request_of (door.size_of old.door) bytes) ≡ false
        → IsStep now (record { item = text bytes; reply = reply; put = put }) next
        → Appends now.written next.written (reply_line reply)
        → Progress door input old after next
    Progress_line bytes reply put after rest next keeps found goes_on step sent =
        let talk_line : TalkLine = record { item = text bytes; reply = reply; put = put } in
        record {
          talk_lines = p.talk_lines ++ talk_line ∷ [];
          unread = rest;
          leads = Leads-push old p.talk_lines now talk_line next p.leads step;
          keeps = keeps;
          items = λ more. p.items more ∙ ap (λ xs. items_of_talk_lines p.talk_lines ++ xs) (found more) ∙ one_more p.talk_lines talk_line (lines (rest ++ more));
          unended = ap (ending (door.size_of old.door)) (items_push p.talk_lines talk_line) ∙ ending-append (door.size_of old.door) (items_of_talk_lines p.talk_lines) (text bytes ∷ []) p.unended ∙ ap (λ b. cond b (Some Quit) None) goes_on;
          writes = push_writes old.written now.written next.written p.talk_lines talk_line p.writes sent;
        }

    -- a line that asks to quit
    pub Serves_quit : (bytes : List ℕ) (reply : Reply) (put : Put) (rest : List ℕ) (next : Place D)
        → ((more : List ℕ) → lines (p.unread ++ more) ≡ text bytes ∷ lines (rest ++ more))
        → is_quit (request_of (door.size_of old.door) bytes) ≡ true
        → IsStep now (record { item = text bytes; reply = reply; put = put }) next
        → Appends now.written next.written (reply_line reply)
        → Serves door input old Quit next
    Serves_quit bytes reply put rest next found quits step sent =
        let talk_line : TalkLine = record { item = text bytes; reply = reply; put = put } in
        let e = head_line p.unread rest (text bytes) found in
        record {
          talk_lines = p.talk_lines ++ talk_line ∷ [];
          later = [];
          output = replies (p.talk_lines ++ talk_line ∷ []);
          leads = Leads-push old p.talk_lines now talk_line next p.leads step;
          items = items_until_end input old reader now p _ e ∙ ap (λ b. items_of_talk_lines p.talk_lines ++ text bytes ∷ cond b [] (until_end (door.size_of old.door) (lines rest))) quits ∙ one_more p.talk_lines talk_line [];
          writes = push_writes old.written now.written next.written p.talk_lines talk_line p.writes sent;
          ended = (ending_is input old reader now p _ e ∙ ap (λ b. cond b (Some Quit) (ending (door.size_of old.door) (lines rest))) quits, refl, refl);
        }

    -- a line whose reply could not be written whole
    pub Serves_cut : (bytes : List ℕ) (reply : Reply) (put : Put) (rest : List ℕ) (next : Place D) (part missing : List ℕ)
        → ((more : List ℕ) → lines (p.unread ++ more) ≡ text bytes ∷ lines (rest ++ more))
        → IsStep now (record { item = text bytes; reply = reply; put = put }) next
        → reply_line reply ≡ part ++ missing → Appends now.written next.written part
        → Serves door input old WriteFault next
    Serves_cut bytes reply put rest next part missing found step cut sent =
        let talk_line : TalkLine = record { item = text bytes; reply = reply; put = put } in
        let e = head_line p.unread rest (text bytes) found in
        let later : List Item = cond (is_quit (request_of (door.size_of old.door) bytes)) [] (until_end (door.size_of old.door) (lines rest)) in
        record {
          talk_lines = p.talk_lines ++ talk_line ∷ [];
          later = later;
          output = replies p.talk_lines ++ part;
          leads = Leads-push old p.talk_lines now talk_line next p.leads step;
          items = items_until_end input old reader now p _ e ∙ one_more p.talk_lines talk_line later;
          writes = writes_more old.written now.written next.written p.talk_lines part p.writes sent;
          ended = inl (p.talk_lines, talk_line, part, missing, refl, cut, refl);
        }

    refused : (written : Option (List ℕ)) → IsStep now (record { item = bad; reply = Refused refusals.Line; put = no_put }) (wrote now written)
    refused written = record { takes = ((refl, refl, refl), refl); failures = refl; shelved = Gains-nil now.shelved }

    -- a bad line
    Serves_bad : (written : Option (List ℕ)) → ((more : List ℕ) → lines (p.unread ++ more) ≡ bad ∷ [])
        → Appends now.written written (reply_line (Refused refusals.Line))
        → Serves door input old BadLine (wrote now written)
    Serves_bad written found sent =
        let talk_line : TalkLine = record { item = bad; reply = Refused refusals.Line; put = no_put } in
        let e = head_bad p.unread found in
        record {
          talk_lines = p.talk_lines ++ talk_line ∷ [];
          later = [];
          output = replies (p.talk_lines ++ talk_line ∷ []);
          leads = Leads-push old p.talk_lines now talk_line (wrote now written) p.leads (refused written);
          items = items_until_end input old reader now p _ e ∙ one_more p.talk_lines talk_line [];
          writes = push_writes old.written now.written written p.talk_lines talk_line p.writes sent;
          ended = (ending_is input old reader now p _ e, refl, refl);
        }

    Serves_bad_cut : (written : Option (List ℕ)) (part missing : List ℕ) → ((more : List ℕ) → lines (p.unread ++ more) ≡ bad ∷ [])
        → reply_line (Refused refusals.Line) ≡ part ++ missing → Appends now.written written part
        → Serves door input old WriteFault (wrote now written)
    Serves_bad_cut written part missing found cut sent =
        let talk_line : TalkLine = record { item = bad; reply = Refused refusals.Line; put = no_put } in
        let e = head_bad p.unread found in
        record {
          talk_lines = p.talk_lines ++ talk_line ∷ [];
          later = [];
          output = replies p.talk_lines ++ part;
          leads = Leads-push old p.talk_lines now talk_line (wrote now written) p.leads (refused written);
          items = items_until_end input old reader now p _ e ∙ one_more p.talk_lines talk_line [];
          writes = writes_more old.written now.written written p.talk_lines part p.writes sent;
          ended = inl (p.talk_lines, talk_line, part, missing, refl, cut, refl);
        }

    moved : (written : Option (List ℕ)) → Leads door old p.talk_lines (wrote now written)
    moved written = record { talk = p.leads.talk; failures = p.leads.failures; shelved = p.leads.shelved }

    -- the line reader found no memory
    Serves_memory : (written : Option (List ℕ)) → Appends now.written written memory_line → Serves door input old Memory (wrote now written)
    Serves_memory written sent = record {
      talk_lines = p.talk_lines;
      later = until_end (door.size_of old.door) (lines p.unread);
      output = replies p.talk_lines ++ memory_line;
      leads = moved written;
      items = items_until_end input old reader now p _ refl;
      writes = writes_more old.written now.written written p.talk_lines memory_line p.writes sent;
      ended = (refl, p.unended);
    }

    Serves_memory_cut : (written : Option (List ℕ)) (part missing : List ℕ) → memory_line ≡ part ++ missing → Appends now.written written part → Serves door input old WriteFault (wrote now written)
    Serves_memory_cut written part missing cut sent = record {
      talk_lines = p.talk_lines;
      later = until_end (door.size_of old.door) (lines p.unread);
      output = replies p.talk_lines ++ part;
      leads = moved written;
      items = items_until_end input old reader now p _ refl;
      writes = writes_more old.written now.written written p.talk_lines part p.writes sent;
      ended = inr (part, missing, cut, refl, p.unended);
    }

    -- the last reply to a bad line
    pub Serves_last_bad : (written : Option (List ℕ)) (end : SessionEnd) (part missing : List ℕ) → ((more : List ℕ) → lines (p.unread ++ more) ≡ bad ∷ [])
        → reply_line (Refused refusals.Line) ≡ part ++ missing → Appends now.written written part → EndsWith missing BadLine end
        → Serves door input old end (wrote now written)
    Serves_last_bad written end part missing found cut sent (inl whole) = rw whole.1 (Serves_bad written found (sent_whole now.written written _ part missing cut whole.0 sent))
    Serves_last_bad written end part missing found cut sent (inr fault) = rw fault (Serves_bad_cut written part missing found cut sent)

    -- the last reply where the line reader found no memory
    pub Serves_last_memory : (written : Option (List ℕ)) (end : SessionEnd) (part missing : List ℕ)
        → memory_line ≡ part ++ missing → Appends now.written written part → EndsWith missing Memory end
        → Serves door input old end (wrote now written)
    Serves_last_memory written end part missing cut sent (inl whole) = rw whole.1 (Serves_memory written (sent_whole now.written written memory_line part missing cut whole.0 sent))
    Serves_last_memory written end part missing cut sent (inr fault) = rw fault (Serves_memory_cut written part missing cut sent)

    -- no line is left
    pub lines_answered : (after : LineReader) → KeepsUnread after p.unread → lines p.unread ≡ [] → AnswersLines door input old None after now
    lines_answered after keeps none = (
      record {
        talk_lines = p.talk_lines;
        unread = p.unread;
        leads = p.leads;
        keeps = keeps;
        items = p.items;
        unended = p.unended;
        writes = p.writes;
      },
      none,
    )

    -- an end at which each line of the input is answered
    pub Serves_all : (end : SessionEnd) → lines p.unread ≡ [] → ((ending (door.size_of old.door) (lines input) ≡ None) × (◌≡◌ {A = List Item} [] []) × (replies p.talk_lines ≡ replies p.talk_lines) → EndsAs (door.size_of old.door) end (lines input) p.talk_lines [] (replies p.talk_lines)) → Serves door input old end now
    Serves_all end none as_said = record {
      talk_lines = p.talk_lines;
      later = [];
      output = replies p.talk_lines;
      leads = p.leads;
      items = items_until_end input old reader now p [] none;
      writes = p.writes;
      ended = as_said (ending_is input old reader now p [] none, refl, refl);
    }

-- a session over a reader and a count that end as these are
pub session_by : {D X : Type 0} (door : Calls D)
    → (remaining : X → Option (List ℕ)) (unread : Option (List ℕ)) (now last : X) (old : Place D) (end : SessionEnd) (new : Place D) → last ≡ now
    → (before count counted : ℕ) → counted ≡ count
    → (s : IsSession door unread (remaining now) old end new) → count ≡ before + s.reads
    → (t : IsSession door unread (remaining last) old end new) × (counted ≡ before + t.reads)
session_by door remaining unread now last old end new same before count counted same_count s made =
    subst (λ x. (t : IsSession door unread (remaining x) old end new) × (counted ≡ before + t.reads)) (sym same) (s, same_count ∙ made)

-- the last reply of a session is at none of the ends that are neither the wanted one nor a fault of the writer
pub last_at_no_other : (missing : List ℕ) (wanted end other : SessionEnd) → wanted ≢ other → WriteFault ≢ other → EndsWith missing wanted end → end ≢ other
last_at_no_other missing wanted end other h fault_is_other (inl whole) = rw whole.1 h
last_at_no_other missing wanted end other h fault_is_other (inr fault) = rw fault fault_is_other
