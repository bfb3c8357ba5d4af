-- The lines of replies.
use Rattle.std.specs.Prelude.{ℕ, ℤ, Bool, true, false, List, [], ◌∷◌, ◌++◌, map, codes}
use Rattle.std.specs.Fmt.{decimal, signed_decimal}
use Rattle.hex.specs.Hex.{encode_lower}
use Rattle.gas_terms.specs.Refusals.{refusal_number, refusal_word}
use Rattle.gas_terms.specs.declared.accounts.Sums.{Sums}
use Rattle.gas_terms.specs.declared.accounts.Ledger.{Ledger}
use Rattle.gas_terms.specs.declared.answer.Answer.TheVariants.{Taken, Probed, Tallied, Accounts, RowIs, EntryIs}
use Rattle.gas_text.specs.declared.reply.Reply.{Reply}
use Rattle.gas_text.specs.declared.reply.Reply.TheVariants.{Answered, Saved, Bye, Refused}
use Rattle.gas_text.specs.Requests.{command_text}
use Rattle.gas_text.specs.Words.{parted}

abbrev pub sums_numbers : Sums → List ℤ
sums_numbers s = s.count ∷ s.px ∷ s.py ∷ []

-- the counts, and then each component of the momentum: at the start, injected, drained, and taken
abbrev pub ledger_numbers : Ledger → List ℤ
ledger_numbers l =
    l.start.count ∷ l.injected.count ∷ l.drained.count
    ∷ l.start.px ∷ l.injected.px ∷ l.drained.px ∷ l.walls.x ∷ l.obstacles.x
    ∷ l.start.py ∷ l.injected.py ∷ l.drained.py ∷ l.walls.y ∷ l.obstacles.y
    ∷ []

abbrev pub reply_words : Reply → List (List ℕ)
reply_words (Answered (Taken k)) = codes "OK" ∷ decimal k ∷ []
reply_words (Answered (Probed sums)) = codes "PROBE" ∷ map signed_decimal (sums_numbers sums)
reply_words (Answered (Tallied tick sums)) =
    codes "TALLY" ∷ map signed_decimal (tick ∷ sums_numbers sums)
reply_words (Answered (Accounts ledger)) =
    codes "LEDGER" ∷ map signed_decimal (ledger_numbers ledger)
reply_words (Answered (RowIs bits)) = codes "ROW" ∷ encode_lower bits ∷ []
reply_words (Answered (EntryIs entry)) =
    codes "ENTRY" ∷ decimal entry.seat ∷ command_text entry.command ∷ []
reply_words (Saved k bytes) = codes "SAVED" ∷ decimal k ∷ decimal bytes ∷ []
reply_words Bye = codes "BYE" ∷ []
reply_words (Refused refusal) =
    codes "ERR" ∷ decimal (refusal_number refusal) ∷ refusal_word refusal ∷ []

-- whether a reply is the last of a session
abbrev pub is_bye : Reply → Bool
is_bye Bye = true
is_bye _ = false

-- the line of a reply
unfoldable pub reply_line : Reply → List ℕ
reply_line reply = parted (reply_words reply) ++ 10 ∷ []
