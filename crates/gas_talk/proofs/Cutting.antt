-- The items of an input, cut at its first newline.
use Rattle.std.proofs.Common.{◌≡◌, ℕ, ◌<◌, ◌≤◌, nat_le, false, cond, List, [], ◌∷◌, length, refl, ap, arith}
use Rattle.std.proofs.lemmas.List.Elements.{All-from_get_or}
use Rattle.std.proofs.lemmas.List.Sums.{fails_before_first}
use Rattle.std.proofs.lemmas.List.Splits.{slice_split_none, slice_split_first, length-slice_split}
use Rattle.std.specs.List.{position_or_len, before_first, after_first, All}
use Rattle.gas_talk.specs.Lines.{text, bad, line_limit, is_newline, line_text, is_good, items_of, lines}

-- with a part after it, the first part is a line
pub items_of_line : (line : List ℕ) (parts : List (List ℕ)) → 0 < length parts → items_of (line ∷ parts) ≡ cond (is_good line) (text (line_text line) ∷ items_of parts) (bad ∷ [])
items_of_line line [] h = absurd (omega arith)
items_of_line line (next ∷ parts) h = refl

-- where there is a newline, what stands before the first is a line
pub lines_found : (xs : List ℕ) → position_or_len is_newline xs < length xs → lines xs ≡ cond (is_good (before_first is_newline xs)) (text (line_text (before_first is_newline xs)) ∷ lines (after_first is_newline xs)) (bad ∷ [])
unfolding lines
lines_found xs found = grind (arith, slice_split_first, items_of_line, length-slice_split)

none_passes : (xs : List ℕ) → length xs ≤ position_or_len is_newline xs → All (λ b. is_newline b ≡ false) xs
none_passes xs missing = All-from_get_or (λ b. is_newline b ≡ false) xs 0 (λ i h. fails_before_first is_newline xs i 0 (omega arith))

-- where there is none, no line stands there
pub lines_missing : (xs : List ℕ) → length xs ≤ position_or_len is_newline xs → lines xs ≡ cond (nat_le (length xs) line_limit) [] (bad ∷ [])
unfolding lines
lines_missing xs missing = ap items_of (slice_split_none is_newline xs (none_passes xs missing))

pub lines_nil : lines [] ≡ []
unfolding lines
lines_nil = refl
