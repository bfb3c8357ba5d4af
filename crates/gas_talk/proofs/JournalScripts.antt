-- A journal's script, asked of a laboratory that opens with the same start.
use Rattle.std.proofs.Common.{◌≡◌, ℕ, ◌+◌, ◌<◌, ◌≤◌, nat_le, Bool, true, false, ◌&&◌, cond, List, [], ◌∷◌, length, map, All, Some, None, is_some, refl, ap, ◌∙◌, arith, append_assoc, length-append}
use Rattle.std.proofs.lemmas.Bool.Decides.{nat_tests}
use Rattle.std.proofs.lemmas.List.{length-map, map-append}
use Rattle.std.proofs.lemmas.List.Elements.{All-head, All-tail}
use Rattle.std.specs.List.{fold}
use Rattle.gas_terms.proofs.Laboratories.{all_booked, whole_journal}
use Rattle.gas_terms.specs.Cells.{extent, is_size}
use Rattle.gas_terms.specs.Commands.{is_change}
use Rattle.gas_terms.specs.Laboratory.{Laboratory, opening, cause, answer, accepted, IsAcceptable, Admits, IsSound, lacks_entry, has_all_ports, bars_way_back, leaves_ticks}
use Rattle.gas_terms.specs.declared.command.Command.{Command}
use Rattle.gas_terms.specs.declared.command.Command.TheVariants.{Source, Drain, Step, Back, Probe, Tally, Ledger, Read, Entry as EntryAt}
use Rattle.gas_terms.specs.declared.command.Entry.{Entry}
use Rattle.gas_terms.specs.declared.answer.Answer.TheVariants.{Taken}
use Rattle.gas_terms.specs.declared.refusal.Refusal.{Refusal}
use Rattle.gas_text.proofs.CanonicalCommands.{command_again}
use Rattle.gas_talk.proofs.Cutting.{lines_nil}
use Rattle.gas_talk.proofs.ScriptLines.{line_first, command_is_line}
use Rattle.gas_text.specs.declared.reply.Reply.TheVariants.{Answered}
use Rattle.gas_talk.specs.Ends.{until_end}
use Rattle.gas_talk.specs.LabTalk.{plain, talk_of_item, talk}
use Rattle.gas_talk.specs.Lines.{Item, text, lines}
use Rattle.gas_talk.specs.Scripts.{script, all_plain, asked_by_script, taken_from, made_alone}
use Rattle.gas_talk.specs.Talk.{no_put, TalkLine}
use Rattle.gas_text.specs.Requests.{command_text, IsTyped}

abbrev Typed : Entry → Type 0
Typed entry = IsTyped entry.command

abbrev item_of : Entry → Item
item_of entry = text (command_text entry.command)

-- the script's items are the texts of the journal's commands
script_items : (journal : List Entry) (lab : Laboratory) → is_size (extent lab.start.particles) ≡ true → Admits lab journal → All Typed journal →
    until_end (extent lab.start.particles) (lines (script journal)) ≡ map item_of journal
script_items [] lab sized admits typed = ap (until_end (extent lab.start.particles)) lines_nil
script_items (entry ∷ journal) lab sized admits typed =
    let size = extent lab.start.particles in
    let line = command_text entry.command in
    let first = All-head Typed entry journal typed in
    let is_line = command_is_line size entry.command sized admits.0.in_order first in
    ap (λ bytes. until_end size (lines bytes)) (append_assoc line (10 ∷ []) (script journal))
    ∙ ap (until_end size) (line_first line (script journal) is_line.plain is_line.short)
    ∙ rw (command_again size entry.command sized admits.0.in_order first) (ap (λ items. item_of entry ∷ items) (script_items journal (accepted lab entry) sized admits.1 (All-tail Typed entry journal typed)))

-- ---- what stands against a change is the same

no_entry : (lab : Laboratory) (command : Command) → is_change command ≡ true → lacks_entry lab command ≡ false
no_entry lab (EntryAt k) change = cc
no_entry lab _ change = refl

same_ports : (lab : Laboratory) (seat cap : ℕ) (command : Command) → has_all_ports (made_alone seat cap lab).gas command ≡ has_all_ports lab.gas command
same_ports lab seat cap (Source r period) = refl
same_ports lab seat cap (Drain r) = refl
same_ports lab seat cap _ = refl

same_way : (lab : Laboratory) (seat cap : ℕ) (command : Command) → bars_way_back (made_alone seat cap lab) command ≡ bars_way_back lab command
same_way lab seat cap (Back n) = refl
same_way lab seat cap _ = refl

same_ticks : (lab : Laboratory) (seat cap : ℕ) (command : Command) → leaves_ticks (made_alone seat cap lab) command ≡ leaves_ticks lab command
same_ticks lab seat cap (Step n) = refl
same_ticks lab seat cap (Back n) = refl
same_ticks lab seat cap _ = refl

some_room : (change : Bool) (cap n : ℕ) → n < cap → (change && nat_le cap n) ≡ false
some_room change cap n h = grind (arith, nat_tests)

none_by_tests : (a b c d e f : Bool) (p q r s t : Refusal) → cond a (Some p) (cond b (Some q) (cond c (Some r) (cond d (Some s) (cond e (Some t) None)))) ≡ None → f ≡ false →
    cond false (Some p) (cond b (Some q) (cond c (Some r) (cond d (Some s) (cond f (Some t) None)))) ≡ None
none_by_tests a b c d e f p q r s t none room = grind (arith)

no_cause_there : (lab : Laboratory) (seat cap : ℕ) (command : Command) → is_change command ≡ true → cause lab command ≡ None → length lab.journal < cap →
    cause (made_alone seat cap lab) command ≡ None
no_cause_there lab seat cap command change none room = grind (arith, length-map, no_entry, same_ports, same_way, same_ticks, none_by_tests, some_room)

taken_answer : (lab : Laboratory) (command : Command) → is_change command ≡ true → answer lab command ≡ Taken (length lab.journal)
taken_answer lab (Probe r) change = cc
taken_answer lab Tally change = cc
taken_answer lab Ledger change = cc
taken_answer lab (Read y) change = cc
taken_answer lab (EntryAt k) change = cc
taken_answer lab _ change = refl

-- ---- the talk

abbrev talk_line_of : ℕ → Entry → TalkLine
talk_line_of k entry = record { item = item_of entry; reply = Answered (Taken k); put = no_put }

talk_line_there : (lab : Laboratory) (seat cap : ℕ) (entry : Entry) → is_size (extent lab.start.particles) ≡ true → IsAcceptable lab entry → Typed entry → length lab.journal < cap →
    talk_of_item seat (made_alone seat cap lab) (item_of entry) plain ≡ (talk_line_of (length lab.journal) entry, made_alone seat cap (accepted lab entry))
talk_line_there lab seat cap entry sized stands typed room = grind (arith, command_again, is_some, no_cause_there, taken_answer, length-map, map-append)

talk_there : (journal : List Entry) (lab : Laboratory) (seat cap : ℕ) → is_size (extent lab.start.particles) ≡ true → Admits lab journal → All Typed journal → length lab.journal + length journal ≤ cap →
    talk seat (made_alone seat cap lab) (all_plain (map item_of journal)) ≡ (taken_from (length lab.journal) journal, made_alone seat cap (fold accepted lab journal))
talk_there [] lab seat cap sized admits typed room = refl
talk_there (entry ∷ journal) lab seat cap sized admits typed room =
    let k = length lab.journal in
    let items = all_plain (map item_of journal) in
    let next = accepted lab entry in
    let one_more : length next.journal ≡ k + 1 = length-append lab.journal (entry ∷ []) in
    let first = All-head Typed entry journal typed in
    let others = All-tail Typed entry journal typed in
    ap (λ talk_line. (talk_line.0 ∷ (talk seat talk_line.1 items).0, (talk seat talk_line.1 items).1)) (talk_line_there lab seat cap entry sized admits.0 first (omega (arith, room)))
    ∙ ap (λ rest. (talk_line_of k entry ∷ rest.0, rest.1)) (talk_there journal next seat cap sized admits.1 others (omega (arith, room, one_more)))
    ∙ ap (λ n. (talk_line_of k entry ∷ taken_from n journal, made_alone seat cap (fold accepted next journal))) one_more

pub journal_is_script : (lab : Laboratory) → is_size (extent lab.start.particles) ≡ true → IsSound lab → All Typed lab.journal → (seat cap : ℕ) → length lab.journal ≤ cap →
    talk seat (opening lab.start cap) (asked_by_script (extent lab.start.particles) lab.journal) ≡ (taken_from 0 lab.journal, made_alone seat cap lab)
journal_is_script lab sized sound typed seat cap room =
    let start = opening lab.start lab.cap in
    ap (λ items. talk seat (opening lab.start cap) (all_plain items)) (script_items lab.journal start sized sound.admitted.entries typed)
    ∙ talk_there lab.journal start seat cap sized sound.admitted.entries typed (omega (arith, room))
    ∙ ap (λ l. (taken_from 0 lab.journal, made_alone seat cap l)) (whole_journal lab (all_booked lab sound))
