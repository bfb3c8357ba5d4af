-- The canonical text of a command is read as that command.
use Rattle.std.proofs.Common.{◌≡◌, ℕ, ◌*◌, ◌/◌, ◌^◌, ◌<◌, ◌==◌, Bool, true, false, not, nat_lt, List, [], ◌∷◌, length, map, take, drop, Some, Ok, refl, ◌∙◌, arith}
use Rattle.std.proofs.lemmas.Bool.Decides.{nat_tests}
use Rattle.std.proofs.lemmas.Bool.{and_parts, eqb-true}
use Rattle.std.proofs.lemmas.List.Sums.{list_all-from_AllPass}
use Rattle.std.specs.Fmt.{decimal}
use Rattle.std.specs.List.{AllByRecursion, list_all}
use Rattle.hex.proofs.HexLemmas.{decode_of-encode_lower, decode_of-ok, decode_sized-encode_lower, length-encode_with}
use Rattle.hex.specs.Hex.{IsBytes, encode_lower, is_hex_digit, lower_digits}
use Rattle.gas_terms.specs.Cells.{Extent, Rectangle, is_size, lies_within}
use Rattle.gas_terms.specs.Commands.{fits, is_step_count, is_period}
use Rattle.gas_terms.specs.declared.command.Command.{Command}
use Rattle.gas_terms.specs.declared.command.Command.TheVariants as commands
use Rattle.gas_text.proofs.Canonical.{is_word, some_plain, words_again, number_again, number_word, verb_is_word, verb_again}
use Rattle.gas_text.specs.Requests.{verb_word, verb_of, number_count, word_count, request_of, verb_request, area_numbers, command_text, IsTyped}
use Rattle.gas_text.specs.Words.{is_space, words, numbers_of, parted}
use Rattle.gas_text.specs.declared.request.Request.TheVariants.{Ask}
use Rattle.gas_text.specs.declared.verb.Verb.{Verb}
use Rattle.gas_text.specs.declared.verb.Verb.TheVariants.{Put, Erase, Wall, Block, Unwall, Drain, Probe, Source, Row, Step, Back, Read, Entry, Unport, Tally, Ledger}

-- numbers that a line can hold
abbrev pub AreSmall : List ℕ → Type 0
AreSmall numbers = AllByRecursion (λ n. n < 2 ^ 32) numbers

numbers_again : (numbers : List ℕ) → AreSmall numbers → numbers_of (map decimal numbers) ≡ Some numbers
numbers_again [] h = refl
numbers_again (n ∷ numbers) (small, others) = rw (number_again n small, numbers_again numbers others) refl

number_words : (numbers : List ℕ) → AreSmall numbers → AllByRecursion (λ w. is_word w ≡ true) (map decimal numbers)
number_words [] h = tt
number_words (n ∷ numbers) (small, others) = (number_word n small, number_words numbers others)

asked_again : (size : Extent) (line word : List ℕ) (args : List (List ℕ)) (verb : Verb) (numbers : List ℕ) → words line ≡ word ∷ args → verb_of word ≡ Some verb → (length args == word_count verb) ≡ true → numbers_of (take (number_count verb) args) ≡ Some numbers → request_of size line ≡ verb_request size verb numbers (drop (number_count verb) args)
unfolding request_of
asked_again size line word args verb numbers parts named counted read = rw (parts, named, counted, read) refl

-- a verb with a rectangle's numbers
area_again : (size : Extent) (verb : Verb) (r : Rectangle) → number_count verb ≡ 4 → word_count verb ≡ 4 → AreSmall (area_numbers r) → request_of size (parted (verb_word verb ∷ map decimal (area_numbers r))) ≡ verb_request size verb (area_numbers r) (drop (number_count verb) (map decimal (area_numbers r)))
area_again size verb r four all small =
    let numbers = area_numbers r in
    asked_again size (parted (verb_word verb ∷ map decimal numbers)) (verb_word verb) (map decimal numbers) verb numbers
    (words_again (verb_word verb) (map decimal numbers) (verb_is_word verb) (number_words numbers small)) (verb_again verb) (rw all refl) (rw four (numbers_again numbers small))

-- a verb with one number
number_read_again : (size : Extent) (verb : Verb) (n : ℕ) → number_count verb ≡ 1 → word_count verb ≡ 1 → n < 2 ^ 32 → request_of size (parted (verb_word verb ∷ decimal n ∷ [])) ≡ verb_request size verb (n ∷ []) (drop (number_count verb) (decimal n ∷ []))
number_read_again size verb n one all small =
    asked_again size (parted (verb_word verb ∷ decimal n ∷ [])) (verb_word verb) (decimal n ∷ []) verb (n ∷ [])
    (words_again (verb_word verb) (decimal n ∷ []) (verb_is_word verb) (number_word n small, tt)) (verb_again verb) (rw all refl) (rw one (numbers_again (n ∷ []) (small, tt)))

-- a verb alone
alone_again : (size : Extent) (verb : Verb) → number_count verb ≡ 0 → word_count verb ≡ 0 → request_of size (parted (verb_word verb ∷ [])) ≡ verb_request size verb [] (drop (number_count verb) [])
alone_again size verb none all =
    asked_again size (parted (verb_word verb ∷ [])) (verb_word verb) [] verb []
    (words_again (verb_word verb) [] (verb_is_word verb) tt) (verb_again verb) (rw all refl) (rw none refl)

-- ---- ranges

pub area_small : (size : Extent) (r : Rectangle) → is_size size ≡ true → lies_within size r ≡ true → AreSmall (area_numbers r)
area_small size r sized within = grind (arith, nat_tests)

pub count_small : (n : ℕ) → is_step_count n ≡ true → n < 2 ^ 32
count_small n h = grind (arith, nat_tests)

pub row_small : (size : Extent) (y : ℕ) → is_size size ≡ true → nat_lt y size.height ≡ true → y < 2 ^ 32
row_small size y sized h = grind (arith, nat_tests)

pub period_small : (n : ℕ) → is_period n ≡ true → n < 2 ^ 32
period_small n h = grind (arith, nat_tests)

-- ---- rows

no_space_in_hex : (c : ℕ) (b : Bool) → (c == 32) ≡ b → is_hex_digit c ≡ true → not b ≡ true
no_space_in_hex c true e h = let space = eqb-true c 32 e in cc (rw space at h)
no_space_in_hex c false e h = refl

hex_plain : (text : List ℕ) → list_all is_hex_digit text ≡ true → list_all (λ b. not (is_space b)) text ≡ true
hex_plain [] h = refl
hex_plain (c ∷ text) h =
    let parts = and_parts (is_hex_digit c) (list_all is_hex_digit text) h in
    rw (no_space_in_hex c (c == 32) refl parts.0) (hex_plain text parts.1)

row_word : (bits : List ℕ) → IsBytes bits → 0 < length bits → is_word (encode_lower bits) ≡ true
row_word bits bytes some =
    let ok = decode_of-ok (encode_lower bits) bits (decode_of-encode_lower bits bytes) in
    some_plain (encode_lower bits) (omega (arith, length-encode_with lower_digits bits)) (hex_plain (encode_lower bits) (list_all-from_AllPass is_hex_digit (encode_lower bits) ok.1))

row_again : (size : Extent) (y : ℕ) (bits : List ℕ) → is_size size ≡ true → nat_lt y size.height ≡ true → 8 * length bits ≡ size.width → IsBytes bits → request_of size (command_text (commands.Row y bits)) ≡ Ok (Ask (commands.Row y bits))
row_again size y bits sized below wide bytes =
    let small = row_small size y sized below in
    let text = encode_lower bits in
    let some : 0 < length bits = grind (arith, nat_tests) in
    let read = decode_sized-encode_lower bits (size.width / 8) (omega arith) bytes in
    asked_again size (command_text (commands.Row y bits)) (verb_word Row) (decimal y ∷ text ∷ []) Row (y ∷ [])
    (words_again (verb_word Row) (decimal y ∷ text ∷ []) (verb_is_word Row) (number_word y small, (row_word bits bytes some, tt))) (verb_again Row) refl (numbers_again (y ∷ []) (small, tt))
    ∙ rw (below, read) refl

source_again : (size : Extent) (r : Rectangle) (period : ℕ) → is_size size ≡ true → lies_within size r ≡ true → is_period period ≡ true → request_of size (command_text (commands.Source r period)) ≡ Ok (Ask (commands.Source r period))
source_again size r period sized within rare =
    let (x, (y, (w, (h, none)))) = area_small size r sized within in
    let numbers = r.x ∷ r.y ∷ r.w ∷ r.h ∷ period ∷ [] in
    let small : AreSmall numbers = (x, (y, (w, (h, (period_small period rare, tt))))) in
    asked_again size (command_text (commands.Source r period)) (verb_word Source) (map decimal numbers) Source numbers
    (words_again (verb_word Source) (map decimal numbers) (verb_is_word Source) (number_words numbers small)) (verb_again Source) refl (numbers_again numbers small)
    ∙ rw (within, rare) refl

pub command_again : (size : Extent) (command : Command) → is_size size ≡ true → fits size command ≡ true → IsTyped command → request_of size (command_text command) ≡ Ok (Ask command)
command_again size (commands.Put r) sized h typed = area_again size Put r refl refl (area_small size r sized h) ∙ rw h refl
command_again size (commands.Erase r) sized h typed = area_again size Erase r refl refl (area_small size r sized h) ∙ rw h refl
command_again size (commands.Wall r) sized h typed = area_again size Wall r refl refl (area_small size r sized h) ∙ rw h refl
command_again size (commands.Block r) sized h typed = area_again size Block r refl refl (area_small size r sized h) ∙ rw h refl
command_again size (commands.Unwall r) sized h typed = area_again size Unwall r refl refl (area_small size r sized h) ∙ rw h refl
command_again size (commands.Row y bits) sized h typed =
    let parts = and_parts (nat_lt y size.height) (8 * length bits == size.width) h in
    row_again size y bits sized parts.0 (eqb-true (8 * length bits) size.width parts.1) typed
command_again size (commands.Source r period) sized h typed =
    let parts = and_parts (lies_within size r) (is_period period) h in source_again size r period sized parts.0 parts.1
command_again size (commands.Drain r) sized h typed = area_again size Drain r refl refl (area_small size r sized h) ∙ rw h refl
command_again size commands.Unport sized h typed = alone_again size Unport refl refl
command_again size (commands.Step n) sized h typed = number_read_again size Step n refl refl (count_small n h) ∙ rw h refl
command_again size (commands.Back n) sized h typed = number_read_again size Back n refl refl (count_small n h) ∙ rw h refl
command_again size (commands.Probe r) sized h typed = area_again size Probe r refl refl (area_small size r sized h) ∙ rw h refl
command_again size commands.Tally sized h typed = alone_again size Tally refl refl
command_again size commands.Ledger sized h typed = alone_again size Ledger refl refl
command_again size (commands.Read y) sized h typed = number_read_again size Read y refl refl (row_small size y sized h) ∙ rw h refl
command_again size (commands.Entry k) sized h typed = number_read_again size Entry k refl refl typed
