-- Words and numbers of a line.
use Rattle.std.proofs.Common.{◌≡◌, ℕ, zero, suc, ◌+◌, ◌-◌, ◌*◌, ◌^◌, ◌<◌, ◌≤◌, true, false, ◌&&◌, List, [], ◌∷◌, ◌++◌, length, get_or, set, take, drop, Option, Some, None, refl, ap, arith, add-one, drop-cons, append_assoc}
use Rattle.std.proofs.Math.Seq.{take-suc-set}
use Rattle.std.proofs.lemmas.Bool.Decides.{nat_tests}
use Rattle.std.proofs.lemmas.List.Elements.{All-from_get_or}
use Rattle.std.proofs.lemmas.List.Sums.{fails_before_first}
use Rattle.std.proofs.lemmas.List.Splits.{slice_split_none, slice_split_first}
use Rattle.std.specs.List.{filter, position_or_len, before_first, after_first, All}
use Rattle.std.specs.Option.{option_map}
use Rattle.std.specs.Char.{is_ascii_digit}
use Rattle.std.specs.Str.{all_ascii_digits}
use Rattle.gas_text.specs.Words.{is_space, is_nonempty, words, with_word, value_after, value_of, number_of, followed, numbers_of}

pub words_found : (line : List ℕ) → position_or_len is_space line < length line → words line ≡ with_word (before_first is_space line) (words (after_first is_space line))
unfolding words
words_found line found = ap (filter is_nonempty) (slice_split_first is_space line 0 found)

none_passes : (line : List ℕ) → length line ≤ position_or_len is_space line → All (λ b. is_space b ≡ false) line
none_passes line missing = All-from_get_or (λ b. is_space b ≡ false) line 0 (λ i h. fails_before_first is_space line i 0 (omega arith))

pub words_nil : words [] ≡ []
unfolding words
words_nil = refl

pub words_missing : (line : List ℕ) → length line ≤ position_or_len is_space line → words line ≡ with_word line (words [])
unfolding words
words_missing line missing = ap (filter is_nonempty) (slice_split_none is_space line (none_passes line missing))

pub value_after-le : (n : ℕ) (cs : List ℕ) → n ≤ value_after n cs
value_after-le n [] = omega arith
value_after-le n (c ∷ cs) = omega (arith, value_after-le (n * 10 + (c - 48)) cs)

pub value_step : (word : List ℕ) (i n : ℕ) → i < length word → value_after n (drop i word) ≡ value_after (n * 10 + (get_or word i 0 - 48)) (drop (i + 1) word)
value_step word i n h = rw (add-one, drop-cons word i 0)

pub digits_step : (word : List ℕ) (i : ℕ) → i < length word → all_ascii_digits (drop i word) ≡ (is_ascii_digit (get_or word i 0) && all_ascii_digits (drop (i + 1) word))
digits_step word i h = rw (add-one, drop-cons word i 0)

pub number_is : (word : List ℕ) → 0 < length word → length word ≤ 10 → all_ascii_digits word ≡ true → value_of word < 2 ^ 32 → number_of word ≡ Some (value_of word)
unfolding number_of
number_is word some short digits small = grind (arith, nat_tests)

pub not_digits : (word : List ℕ) → all_ascii_digits word ≡ false → number_of word ≡ None
unfolding number_of
not_digits word digits = grind (arith, nat_tests)

pub too_great : (word : List ℕ) → 2 ^ 32 ≤ value_of word → number_of word ≡ None
unfolding number_of
too_great word great = grind (arith, nat_tests)

pub no_digit : (word : List ℕ) → length word ≡ 0 → number_of word ≡ None
unfolding number_of
no_digit word none = grind (arith, nat_tests)

pub too_many_digits : (word : List ℕ) → 10 < length word → number_of word ≡ None
unfolding number_of
too_many_digits word many = grind (arith, nat_tests)

front_more : (front : List ℕ) (n : ℕ) (rest : Option (List ℕ)) → option_map (λ ns. (front ++ n ∷ []) ++ ns) rest ≡ option_map (λ ns. front ++ ns) (option_map (λ ns. n ∷ ns) rest)
front_more front n None = refl
front_more front n (Some ns) = ap Some (append_assoc front (n ∷ []) ns)

-- one more number at the front
pub numbers_step : (numbers : List ℕ) (i n : ℕ) (rest : List (List ℕ)) → i < length numbers → option_map (λ ns. take (i + 1) (set numbers i n) ++ ns) (numbers_of rest) ≡ option_map (λ ns. take i numbers ++ ns) (followed (Some n) (numbers_of rest))
numbers_step numbers i n rest h = rw (add-one, take-suc-set) (front_more (take i numbers) n (numbers_of rest))

one_less_of : (i : ℕ) (line more : List (List ℕ)) (word : List ℕ) → drop i line ≡ word ∷ more → drop (suc i) line ≡ more
one_less_of zero [] more word e = absurd (omega (arith, ap length e))
one_less_of zero (x ∷ line) more word e = ap (drop 1) e
one_less_of (suc i) [] more word e = absurd (omega (arith, ap length e))
one_less_of (suc i) (x ∷ line) more word e = one_less_of i line more word e

-- one word less to read
pub one_less : (i : ℕ) (line more : List (List ℕ)) (word : List ℕ) → drop i line ≡ word ∷ more → drop (i + 1) line ≡ more
one_less i line more word e = rw add-one (one_less_of i line more word e)

-- the next word is a number,
pub next_is : (numbers : List ℕ) (i count n : ℕ) (word : List ℕ) (rest more : List (List ℕ)) → i < count → i < length numbers → rest ≡ word ∷ more → number_of word ≡ Some n → option_map (λ ns. take (i + 1) (set numbers i n) ++ ns) (numbers_of (take (count - (i + 1)) more)) ≡ option_map (λ ns. take i numbers ++ ns) (numbers_of (take (count - i) rest))
next_is numbers i count n word rest more below room first number =
    let one : count - i ≡ suc (count - (i + 1)) = omega arith in
    rw (first, one, number) (numbers_step numbers i n (take (count - (i + 1)) more) room)
