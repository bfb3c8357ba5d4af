-- The canonical text of a command, read word by word.
use Rattle.std.proofs.Common.{◌≡◌, ℕ, ◌+◌, ◌-◌, ◌*◌, ◌/◌, ◌%◌, ◌^◌, ◌<◌, ◌≤◌, Bool, true, false, not, ◌&&◌, List, [], ◌∷◌, ◌++◌, length, Some, refl, ap, ◌∙◌, arith}
use Rattle.std.proofs.lemmas.Bool.Decides.{nat_tests}
use Rattle.std.proofs.lemmas.Bool.{and_parts}
use Rattle.std.proofs.lemmas.Fmt.{decimal_by_steps, decimal_nonempty, length-decimal-le}
use Rattle.std.proofs.lemmas.List.Elements.{All-cons, All-nil}
use Rattle.std.proofs.lemmas.List.Splits.{slice_split_none, slice_split_at}
use Rattle.std.specs.Char.{is_ascii_digit}
use Rattle.std.specs.Fmt.{decimal}
use Rattle.std.specs.List.{All, AllByRecursion, filter, list_all, slice_split}
use Rattle.std.specs.Str.{all_ascii_digits}
use Rattle.gas_text.proofs.LineWords.{number_is}
use Rattle.gas_text.specs.Requests.{verb_word, verb_of}
use Rattle.gas_text.specs.Words.{is_space, is_nonempty, words, parted, value_after, value_of, number_of}
use Rattle.gas_text.specs.declared.verb.Verb.{Verb}

-- whether some bytes are a word: there are some, and none is a space
abbrev pub is_word : List ℕ → Bool
is_word word = is_nonempty word && list_all (λ b. not (is_space b)) word

without_space : (word : List ℕ) → list_all (λ b. not (is_space b)) word ≡ true → All (λ b. is_space b ≡ false) word
without_space [] h = All-nil (λ b. is_space b ≡ false)
without_space (b ∷ word) h =
    let parts = and_parts (not (is_space b)) (list_all (λ b. not (is_space b)) word) h in
    All-cons (λ b. is_space b ≡ false) b word (grind (arith, parts.0)) (without_space word parts.1)

kept : (word : List ℕ) (rest : List (List ℕ)) → is_nonempty word ≡ true → filter is_nonempty (word ∷ rest) ≡ word ∷ filter is_nonempty rest
kept word rest some = rw some refl

-- words that are parted are found again
pub words_again : (word : List ℕ) (more : List (List ℕ)) → is_word word ≡ true → AllByRecursion (λ w. is_word w ≡ true) more → words (parted (word ∷ more)) ≡ word ∷ more
unfolding words
words_again word [] h none =
    let parts = and_parts (is_nonempty word) (list_all (λ b. not (is_space b)) word) h in
    ap (filter is_nonempty) (slice_split_none is_space word (without_space word parts.1)) ∙ kept word [] parts.0
words_again word (next ∷ more) h (first, others) =
    let parts = and_parts (is_nonempty word) (list_all (λ b. not (is_space b)) word) h in
    ap (filter is_nonempty) (slice_split_at is_space word 32 (parted (next ∷ more)) (without_space word parts.1) refl)
    ∙ kept word (slice_split is_space (parted (next ∷ more))) parts.0 ∙ ap (λ ws. word ∷ ws) (words_again next more first others)

-- ---- numbers

value_of_more : (n c : ℕ) (digits : List ℕ) → value_after n (digits ++ c ∷ []) ≡ value_after n digits * 10 + (c - 48)
value_of_more n c [] = refl
value_of_more n c (d ∷ digits) = value_of_more (n * 10 + (d - 48)) c digits

-- what is known of the digits of a number
record Spells (n : ℕ) (text : List ℕ) : Type 0 where
  value : value_of text ≡ n
  digits : all_ascii_digits text ≡ true

digit_is : (d : ℕ) → d < 10 → is_ascii_digit (48 + d) ≡ true
digit_is d small = grind (arith, nat_tests)

digits_then : (c : ℕ) (text : List ℕ) → all_ascii_digits text ≡ true → is_ascii_digit c ≡ true → all_ascii_digits (text ++ c ∷ []) ≡ true
digits_then c [] none last = rw last refl
digits_then c (d ∷ text) all last =
    let parts = and_parts (is_ascii_digit d) (all_ascii_digits text) all in
    rw parts.0 (digits_then c text parts.1 last)

one_digit : (n : ℕ) → n < 10 → Spells n ((48 + n) ∷ [])
one_digit n small = record { value = omega arith; digits = digits_then (48 + n) [] refl (digit_is n small) }

digits_more : (n : ℕ) (text : List ℕ) → 10 ≤ n → Spells (n / 10) text → Spells n (text ++ (48 + n % 10) ∷ [])
digits_more n text many h = grind (arith, value_of_more, digits_then, digit_is)

spells : (n : ℕ) → n < 2 ^ 32 → Spells n (decimal n)
spells n small = decimal_by_steps Spells one_digit digits_more n (omega arith)

pub number_again : (n : ℕ) → n < 2 ^ 32 → number_of (decimal n) ≡ Some n
number_again n small =
    let h = spells n small in
    number_is (decimal n) (decimal_nonempty n (omega arith)) (length-decimal-le 10 n (omega arith) (omega arith) (omega arith)) h.digits (omega (arith, h.value)) ∙ ap Some h.value

pub digits_of_number : (n : ℕ) → n < 2 ^ 32 → all_ascii_digits (decimal n) ≡ true
digits_of_number n small = (spells n small).digits

no_space : (c : ℕ) → is_ascii_digit c ≡ true → not (is_space c) ≡ true
no_space c digit = grind (arith, nat_tests, digit)

plain_digits : (text : List ℕ) → all_ascii_digits text ≡ true → list_all (λ b. not (is_space b)) text ≡ true
plain_digits [] h = refl
plain_digits (c ∷ text) h =
    let parts = and_parts (is_ascii_digit c) (all_ascii_digits text) h in
    rw (no_space c parts.0) (plain_digits text parts.1)

pub some_plain : (text : List ℕ) → 0 < length text → list_all (λ b. not (is_space b)) text ≡ true → is_word text ≡ true
some_plain text h2 h3 = grind (arith, nat_tests)

pub number_word : (n : ℕ) → n < 2 ^ 32 → is_word (decimal n) ≡ true
number_word n small = some_plain (decimal n) (decimal_nonempty n (omega arith)) (plain_digits (decimal n) (digits_of_number n small))

-- ---- verbs

pub verb_is_word : (verb : Verb) → is_word (verb_word verb) ≡ true
verb_is_word verb = grind arith

pub verb_again : (verb : Verb) → verb_of (verb_word verb) ≡ Some verb
unfolding verb_of
verb_again verb = grind arith
