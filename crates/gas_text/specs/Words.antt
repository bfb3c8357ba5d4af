-- The words of a line, the numbers among them, and lines of words.
use Rattle.std.specs.Prelude.{ℕ, ◌+◌, ◌-◌, ◌*◌, ◌^◌, ◌==◌, nat_lt, nat_le, Bool, ◌&&◌, if◌then◌else◌, List, [], ◌∷◌, length, Option, Some, None}
use Rattle.std.specs.List.{slice_split, filter, flat_map, join_with_byte}
use Rattle.std.specs.Option.{option_map}
use Rattle.std.specs.Str.{all_ascii_digits}

abbrev pub is_space : ℕ → Bool
is_space b = b == 32

abbrev pub is_nonempty : List ℕ → Bool
is_nonempty word = nat_lt 0 (length word)

-- the longest runs of bytes other than a space
unfoldable pub words : List ℕ → List (List ℕ)
words line = filter is_nonempty (slice_split is_space line)

-- words parted by one space
abbrev pub parted : List (List ℕ) → List ℕ
parted words = join_with_byte 32 words

-- words, a space before each
abbrev pub spaced : List (List ℕ) → List ℕ
spaced words = flat_map (λ word. 32 ∷ word) words

-- words, with one in front unless it is empty
abbrev pub with_word : List ℕ → List (List ℕ) → List (List ℕ)
with_word word words = if is_nonempty word then word ∷ words else words

-- the number that digits spell, after those that spell n
abbrev pub value_after : ℕ → List ℕ → ℕ
value_after n [] = n
value_after n (c ∷ cs) = value_after (n * 10 + (c - 48)) cs

abbrev pub value_of : List ℕ → ℕ
value_of digits = value_after 0 digits

-- 1 to 10 digits, of at most 4,294,967,295
unfoldable pub number_of : List ℕ → Option ℕ
number_of word =
    if is_nonempty word && nat_le (length word) 10 && all_ascii_digits word
    && nat_lt (value_of word) (2 ^ 32)
    then Some (value_of word)
    else None

-- a number, and then the numbers that follow
abbrev pub followed : Option ℕ → Option (List ℕ) → Option (List ℕ)
followed None rest = None
followed (Some n) rest = option_map (λ ns. n ∷ ns) rest

-- the numbers that the words are, if each is one
abbrev pub numbers_of : List (List ℕ) → Option (List ℕ)
numbers_of [] = Some []
numbers_of (word ∷ words) = followed (number_of word) (numbers_of words)
