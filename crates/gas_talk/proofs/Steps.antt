-- One more talk line: items, endings, counts and what a shelf took.
use Rattle.std.proofs.Common.{◌≡◌, ◌+◌, ℕ, true, false, cond, List, [], ◌∷◌, ◌++◌, map, Option, Some, None, refl, sym, ap, ◌∙◌, append_assoc, append-nil, add-one, add-zero, zero-add}
use Rattle.std.proofs.lemmas.List.{map-append}
use Rattle.std.proofs.lemmas.Grind.{flat_map-append}
use Rattle.std.proofs.lemmas.List.Sums.{sum_by-append}
use Rattle.gas_terms.specs.Cells.{Extent}
use Rattle.gas_snapshot.specs.Shelved.{Gains}
use Rattle.gas_text.specs.Requests.{request_of}
use Rattle.gas_talk.specs.declared.end.SessionEnd.TheVariants.{Quit}
use Rattle.gas_talk.specs.Lines.{Item, text, bad}
use Rattle.gas_talk.specs.Talk.{Put, no_put, put_done, put_failed, TalkLine}
use Rattle.gas_talk.specs.Ends.{is_quit, until_end, ending, line_of, replies, bytes_put, failed_by, shelved_by, failed_puts, failures_after}

abbrev pub items_of_talk_lines : List TalkLine → List Item
items_of_talk_lines talk_lines = map (λ talk_line. talk_line.item) talk_lines

-- what ends nothing is passed over
pub ending-append : (size : Extent) (xs ys : List Item) → ending size xs ≡ None → ending size (xs ++ ys) ≡ ending size ys
ending-append size [] ys h = refl
ending-append size (bad ∷ xs) ys h = cc
ending-append size (text line ∷ xs) ys h =
    elim (is_quit (request_of size line)) as (λ b. cond b (Some Quit) (ending size xs) ≡ None → cond b (Some Quit) (ending size (xs ++ ys)) ≡ ending size ys) [
      | true ↦ λ wrong. cc
      | false ↦ λ none. ending-append size xs ys none
    ] h

pub until_end-append : (size : Extent) (xs ys : List Item) → ending size xs ≡ None → until_end size (xs ++ ys) ≡ xs ++ until_end size ys
until_end-append size [] ys h = refl
until_end-append size (bad ∷ xs) ys h = cc
until_end-append size (text line ∷ xs) ys h =
    elim (is_quit (request_of size line)) as (λ b. cond b (Some Quit) (ending size xs) ≡ None → text line ∷ cond b [] (until_end size (xs ++ ys)) ≡ text line ∷ (xs ++ until_end size ys)) [
      | true ↦ λ wrong. cc
      | false ↦ λ none. ap (λ items. text line ∷ items) (until_end-append size xs ys none)
    ] h

pub items_push : (talk_lines : List TalkLine) (talk_line : TalkLine) → items_of_talk_lines (talk_lines ++ talk_line ∷ []) ≡ items_of_talk_lines talk_lines ++ talk_line.item ∷ []
items_push talk_lines talk_line = map-append (λ t. t.item) talk_lines (talk_line ∷ [])

pub replies_push : (talk_lines : List TalkLine) (talk_line : TalkLine) → replies (talk_lines ++ talk_line ∷ []) ≡ replies talk_lines ++ line_of talk_line
replies_push talk_lines talk_line = flat_map-append line_of talk_lines (talk_line ∷ []) ∙ ap (λ xs. replies talk_lines ++ xs) (append-nil (line_of talk_line))

pub shelved_push : (talk_lines : List TalkLine) (talk_line : TalkLine) → shelved_by (talk_lines ++ talk_line ∷ []) ≡ shelved_by talk_lines ++ bytes_put talk_line.put
shelved_push talk_lines talk_line = flat_map-append (λ t. bytes_put t.put) talk_lines (talk_line ∷ []) ∙ ap (λ xs. shelved_by talk_lines ++ xs) (append-nil (bytes_put talk_line.put))

pub failed_push : (talk_lines : List TalkLine) (talk_line : TalkLine) → failed_puts (talk_lines ++ talk_line ∷ []) ≡ failed_puts talk_lines + failed_by talk_line.put
failed_push talk_lines talk_line = sum_by-append (λ t. failed_by t.put) talk_lines (talk_line ∷ []) ∙ ap (λ n. failed_puts talk_lines + n) (zero-add (failed_by talk_line.put))

pub failures_more : (old k : ℕ) (put : Put) → failures_after (failures_after old k) (failed_by put) ≡ failures_after old (k + failed_by put)
failures_more old k no_put = ap (failures_after old) (sym (add-zero k))
failures_more old k (put_done bytes) = ap (failures_after old) (sym (add-zero k))
failures_more old k put_failed = ap (failures_after old) (sym (add-one k))

pub Gains-nil : (a : Option (List (List ℕ))) → Gains a a []
Gains-nil None = tt
Gains-nil (Some xs) = sym (append-nil xs)

pub Gains-trans : (a b c : Option (List (List ℕ))) (xs ys : List (List ℕ)) → Gains a b xs → Gains b c ys → Gains a c (xs ++ ys)
Gains-trans None b c xs ys p q = tt
Gains-trans (Some x) None c xs ys p q = absurd p
Gains-trans (Some x) (Some y) None xs ys p q = absurd q
Gains-trans (Some x) (Some y) (Some z) xs ys p q = q ∙ ap (λ l. l ++ ys) p ∙ append_assoc x xs ys
