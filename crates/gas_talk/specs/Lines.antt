-- The items of an input: the texts of its lines, up to the first line that is bad.
use Rattle.std.specs.Prelude.{ℕ, ◌==◌, nat_le, Bool, ◌&&◌, if◌then◌else◌, List, [], ◌∷◌, length}
use Rattle.std.specs.List.{slice_split}
use Rattle.std.specs.Str.{is_utf8}

pub data Item : Type 0 where
  text : List ℕ → Item
  -- too long, or not UTF-8
  bad : Item

-- how many bytes a line may have before its newline
abbrev pub line_limit : ℕ
line_limit = 2048

abbrev pub is_newline : ℕ → Bool
is_newline b = b == 10

-- a line without the one carriage return that may end it
abbrev pub line_text : List ℕ → List ℕ
line_text [] = []
line_text (b ∷ []) = if b == 13 then [] else b ∷ []
line_text (b ∷ c ∷ bs) = b ∷ line_text (c ∷ bs)

abbrev pub is_good : List ℕ → Bool
is_good line = nat_le (length line) line_limit && is_utf8 (line_text line)

-- The items of an input that is cut at each newline: what stands after the last one is no line, and is bad only if it is
-- too long to become one. Nothing comes after what is bad.
abbrev pub items_of : List (List ℕ) → List Item
items_of [] = []
items_of (rest ∷ []) = if nat_le (length rest) line_limit then [] else bad ∷ []
items_of (line ∷ next ∷ parts) =
    if is_good line then text (line_text line) ∷ items_of (next ∷ parts) else bad ∷ []

unfoldable pub lines : List ℕ → List Item
lines input = items_of (slice_split is_newline input)
