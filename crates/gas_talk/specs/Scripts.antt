-- A journal as a script, and what becomes of it.
use Rattle.std.specs.Prelude.{ℕ, ◌+◌, List, [], ◌∷◌, ◌++◌, map}
use Rattle.std.specs.List.{flat_map}
use Rattle.gas_terms.specs.Cells.{Extent}
use Rattle.gas_terms.specs.Laboratory.{Laboratory}
use Rattle.gas_terms.specs.declared.command.Entry.{Entry}
use Rattle.gas_terms.specs.declared.answer.Answer.TheVariants.{Taken}
use Rattle.gas_text.specs.declared.reply.Reply.TheVariants.{Answered}
use Rattle.gas_talk.specs.Ends.{until_end}
use Rattle.gas_talk.specs.Lines.{Item, text, lines}
use Rattle.gas_talk.specs.Talk.{no_put, TalkLine, replied}
use Rattle.gas_talk.specs.LabTalk.{Outcome, plain}
use Rattle.gas_text.specs.Requests.{command_text}

-- the texts of a journal's commands, each a line
abbrev pub script : List Entry → List ℕ
script journal = flat_map (λ e. command_text e.command ++ 10 ∷ []) journal

-- items of which each finds what it needs
abbrev pub all_plain : List Item → List (Item × Outcome)
all_plain items = map (λ i. (i, plain)) items

-- what a session asks whose input is the script, where nothing is wanting
abbrev pub asked_by_script : Extent → List Entry → List (Item × Outcome)
asked_by_script size journal = all_plain (until_end size (lines (script journal)))

-- the talk lines of a script whose commands are taken, each with the next index from k on
abbrev pub taken_from : ℕ → List Entry → List TalkLine
taken_from k [] = []
taken_from k (entry ∷ journal) =
    replied (text (command_text entry.command)) (Answered (Taken k)) no_put
    ∷ taken_from (k + 1) journal

-- the entries, made by one seat
abbrev pub with_seat : ℕ → List Entry → List Entry
with_seat seat journal = map (λ e. record { seat = seat; command = e.command }) journal

-- the laboratory with all its entries made by one seat, and room for cap of them
abbrev pub made_alone : ℕ → ℕ → Laboratory → Laboratory
made_alone seat cap lab = record lab { cap = cap; journal = with_seat seat lab.journal }
