-- The text of a command is a line.
use Rattle.std.proofs.Common.{◌≡◌, ℕ, ◌+◌, ◌*◌, ◌^◌, ◌<◌, ◌≤◌, ◌==◌, nat_le, nat_lt, Bool, true, false, ◌&&◌, List, [], ◌∷◌, ◌++◌, length, map, All, refl, ap, ◌∙◌, arith, length-append}
use Rattle.std.proofs.lemmas.Bool.Decides.{nat_tests}
use Rattle.std.proofs.lemmas.Bool.{and_parts}
use Rattle.std.proofs.lemmas.Fmt.{length-decimal-le}
use Rattle.std.proofs.lemmas.List.Elements.{All-cons, All-nil}
use Rattle.std.proofs.lemmas.List.Folds.{list_all-append}
use Rattle.std.proofs.lemmas.List.Splits.{slice_split_at, length-slice_split}
use Rattle.std.proofs.lemmas.List.Sums.{list_all-from_AllPass}
use Rattle.std.proofs.lemmas.Str.{IsUtf8-from_ascii, is_utf8-from_IsUtf8}
use Rattle.std.proofs.lemmas.Str.Ascii.{IsAscii-from_all}
use Rattle.std.specs.Char.{is_ascii_digit}
use Rattle.std.specs.Fmt.{decimal}
use Rattle.std.specs.List.{AllByRecursion, list_all, slice_split}
use Rattle.std.specs.Str.{all_ascii_digits, is_utf8}
use Rattle.hex.proofs.HexLemmas.{decode_of-encode_lower, decode_of-ok, length-encode_with}
use Rattle.hex.specs.Hex.{IsBytes, encode_lower, is_hex_digit, lower_digits}
use Rattle.gas_terms.specs.Cells.{Extent, Rectangle, is_size, lies_within}
use Rattle.gas_terms.specs.Commands.{fits, is_period}
use Rattle.gas_terms.specs.declared.command.Command.{Command}
use Rattle.gas_terms.specs.declared.command.Command.TheVariants as commands
use Rattle.gas_text.proofs.Canonical.{digits_of_number}
use Rattle.gas_text.proofs.CanonicalCommands.{AreSmall, area_small, count_small, row_small, period_small}
use Rattle.gas_talk.proofs.Cutting.{items_of_line}
use Rattle.gas_talk.specs.Lines.{text, line_limit, is_newline, line_text, is_good, items_of, lines}
use Rattle.gas_text.specs.Requests.{verb_word, area_numbers, command_text, IsTyped}
use Rattle.gas_text.specs.Words.{parted}
use Rattle.gas_text.specs.declared.verb.Verb.{Verb}
use Rattle.gas_text.specs.declared.verb.Verb.TheVariants.{Put, Source, Row, Step, Back, Read, Entry, Unport, Tally, Ledger}

-- ---- what is a line, whatever comes after it

-- an ASCII byte that ends no line
abbrev pub is_plain : ℕ → Bool
is_plain b = nat_le 32 b && nat_lt b 127

abbrev pub are_plain : List ℕ → Bool
are_plain bytes = list_all is_plain bytes

no_newline : (b : ℕ) → is_plain b ≡ true → is_newline b ≡ false
no_newline b h = grind (arith, nat_tests)

no_return : (b : ℕ) → is_plain b ≡ true → (b == 13) ≡ false
no_return b h = grind (arith, nat_tests)

ascii : (b : ℕ) → is_plain b ≡ true → b < 128
ascii b h = grind (arith, nat_tests)

all_of : (P : ℕ → Type 0) → ((b : ℕ) → is_plain b ≡ true → P b) → (bytes : List ℕ) → are_plain bytes ≡ true → All P bytes
all_of P each [] h = All-nil P
all_of P each (b ∷ bytes) h = let parts = and_parts (is_plain b) (are_plain bytes) h in All-cons P b bytes (each b parts.0) (all_of P each bytes parts.1)

text_stays : (line : List ℕ) → are_plain line ≡ true → line_text line ≡ line
text_stays [] h = refl
text_stays (b ∷ []) h = let parts = and_parts (is_plain b) true h in rw (no_return b parts.0) refl
text_stays (b ∷ c ∷ line) h = let parts = and_parts (is_plain b) (are_plain (c ∷ line)) h in ap (λ rest. b ∷ rest) (text_stays (c ∷ line) parts.1)

plain_is_good : (line : List ℕ) → are_plain line ≡ true → length line ≤ line_limit → is_good line ≡ true
plain_is_good line h short =
    let utf8 : is_utf8 line ≡ true = is_utf8-from_IsUtf8 line (IsUtf8-from_ascii line (IsAscii-from_all line (all_of (λ b. b < 128) ascii line h))) in
    rw (text_stays line h, utf8) (grind (arith, nat_tests))

pub line_first : (line rest : List ℕ) → are_plain line ≡ true → length line ≤ line_limit → lines (line ++ 10 ∷ rest) ≡ text line ∷ lines rest
unfolding lines
line_first line rest h short =
    ap items_of (slice_split_at is_newline line 10 rest (all_of (λ b. is_newline b ≡ false) no_newline line h) refl)
    ∙ items_of_line line (slice_split is_newline rest) (omega (arith, length-slice_split is_newline rest))
    ∙ rw (plain_is_good line h short, text_stays line h) refl

-- ---- words

abbrev ArePlain : List (List ℕ) → Type 0
ArePlain words = AllByRecursion (λ w. are_plain w ≡ true) words

abbrev AreShort : List (List ℕ) → Type 0
AreShort words = AllByRecursion (λ w. length w ≤ 10) words

plain_parted : (word : List ℕ) (more : List (List ℕ)) → are_plain word ≡ true → ArePlain more → are_plain (parted (word ∷ more)) ≡ true
plain_parted word [] h others = h
plain_parted word (next ∷ more) h (first, others) =
    list_all-append is_plain word (32 ∷ parted (next ∷ more)) ∙ rw (h, plain_parted next more first others) refl

short_parted : (word : List ℕ) (more : List (List ℕ)) → length word ≤ 10 → AreShort more → length (parted (word ∷ more)) ≤ 10 + length more * 11
short_parted word [] h others = omega (arith, h)
short_parted word (next ∷ more) h (first, others) =
    omega (arith, length-append word (32 ∷ parted (next ∷ more)), short_parted next more first others)

digit_plain : (c : ℕ) → is_ascii_digit c ≡ true → is_plain c ≡ true
digit_plain c h = grind (arith, nat_tests)

digits_plain : (digits : List ℕ) → all_ascii_digits digits ≡ true → are_plain digits ≡ true
digits_plain [] h = refl
digits_plain (c ∷ digits) h = let parts = and_parts (is_ascii_digit c) (all_ascii_digits digits) h in rw (digit_plain c parts.0) (digits_plain digits parts.1)

decimal_plain : (n : ℕ) → n < 2 ^ 32 → are_plain (decimal n) ≡ true
decimal_plain n small = digits_plain (decimal n) (digits_of_number n small)

decimal_short : (n : ℕ) → n < 2 ^ 32 → length (decimal n) ≤ 10
decimal_short n small = length-decimal-le 10 n (omega arith) (omega arith) (omega arith)

hex_plain : (c : ℕ) → is_hex_digit c ≡ true → is_plain c ≡ true
hex_plain c h = grind (arith, nat_tests)

hexes_plain : (digits : List ℕ) → list_all is_hex_digit digits ≡ true → are_plain digits ≡ true
hexes_plain [] h = refl
hexes_plain (c ∷ digits) h = let parts = and_parts (is_hex_digit c) (list_all is_hex_digit digits) h in rw (hex_plain c parts.0) (hexes_plain digits parts.1)

bits_plain : (bits : List ℕ) → IsBytes bits → are_plain (encode_lower bits) ≡ true
bits_plain bits bytes =
    let ok = decode_of-ok (encode_lower bits) bits (decode_of-encode_lower bits bytes) in
    hexes_plain (encode_lower bits) (list_all-from_AllPass is_hex_digit (encode_lower bits) ok.1)

verb_plain : (verb : Verb) → are_plain (verb_word verb) ≡ true
verb_plain Put = refl
verb_plain _ = refl

verb_short : (verb : Verb) → length (verb_word verb) ≤ 10
verb_short Put = omega arith
verb_short _ = omega arith

-- ---- commands

-- a text that is a line
pub record IsLine (line : List ℕ) : Type 0 where
  pub plain : are_plain line ≡ true
  pub short : length line ≤ line_limit

numbers_plain : (numbers : List ℕ) → AreSmall numbers → ArePlain (map decimal numbers)
numbers_plain [] h = tt
numbers_plain (n ∷ numbers) (small, others) = (decimal_plain n small, numbers_plain numbers others)

numbers_short : (numbers : List ℕ) → AreSmall numbers → AreShort (map decimal numbers)
numbers_short [] h = tt
numbers_short (n ∷ numbers) (small, others) = (decimal_short n small, numbers_short numbers others)

-- a verb with at most five numbers
with_numbers : (verb : Verb) (numbers : List ℕ) → AreSmall numbers → length (map decimal numbers) ≤ 5 → IsLine (parted (verb_word verb ∷ map decimal numbers))
with_numbers verb numbers small few =
    record {
      plain = plain_parted (verb_word verb) (map decimal numbers) (verb_plain verb) (numbers_plain numbers small);
      short = omega (arith, short_parted (verb_word verb) (map decimal numbers) (verb_short verb) (numbers_short numbers small));
    }

with_area : (size : Extent) (verb : Verb) (r : Rectangle) → is_size size ≡ true → lies_within size r ≡ true → IsLine (parted (verb_word verb ∷ map decimal (area_numbers r)))
with_area size verb r sized within = with_numbers verb (area_numbers r) (area_small size r sized within) (omega arith)

with_number : (verb : Verb) (n : ℕ) → n < 2 ^ 32 → IsLine (parted (verb_word verb ∷ decimal n ∷ []))
with_number verb n small = with_numbers verb (n ∷ []) (small, tt) (omega arith)

row_length : (y : ℕ) (bits : List ℕ) → length (command_text (commands.Row y bits)) ≡ 3 + (1 + (length (decimal y) + (1 + 2 * length bits)))
row_length y bits =
    omega (arith, length-append (decimal y) (32 ∷ encode_lower bits), length-append (verb_word Row) (32 ∷ decimal y ++ 32 ∷ encode_lower bits), length-encode_with lower_digits bits)

row_is_line : (y : ℕ) (bits : List ℕ) → y < 2 ^ 32 → 8 * length bits ≤ 4096 → IsBytes bits → IsLine (command_text (commands.Row y bits))
row_is_line y bits small few bytes =
    record {
      plain = plain_parted (verb_word Row) (decimal y ∷ encode_lower bits ∷ []) (verb_plain Row) (decimal_plain y small, (bits_plain bits bytes, tt));
      short = omega (arith, row_length y bits, decimal_short y small);
    }

pub command_is_line : (size : Extent) (command : Command) → is_size size ≡ true → fits size command ≡ true → IsTyped command → IsLine (command_text command)
command_is_line size (commands.Row y bits) sized h typed =
    let parts = and_parts (nat_lt y size.height) (8 * length bits == size.width) h in
    row_is_line y bits (row_small size y sized parts.0) (grind (arith, nat_tests)) typed
command_is_line size (commands.Source r period) sized h typed =
    let parts = and_parts (lies_within size r) (is_period period) h in
    let (x, (y, (w, (height, none)))) = area_small size r sized parts.0 in
    with_numbers Source (r.x ∷ r.y ∷ r.w ∷ r.h ∷ period ∷ []) (x, (y, (w, (height, (period_small period parts.1, tt))))) (omega arith)
command_is_line size commands.Unport sized h typed = with_numbers Unport [] tt (omega arith)
command_is_line size (commands.Step n) sized h typed = with_number Step n (count_small n h)
command_is_line size (commands.Back n) sized h typed = with_number Back n (count_small n h)
command_is_line size commands.Tally sized h typed = with_numbers Tally [] tt (omega arith)
command_is_line size commands.Ledger sized h typed = with_numbers Ledger [] tt (omega arith)
command_is_line size (commands.Read y) sized h typed = with_number Read y (row_small size y sized h)
command_is_line size (commands.Entry k) sized h typed = with_number Entry k typed
command_is_line size _ sized h typed = search with_area
