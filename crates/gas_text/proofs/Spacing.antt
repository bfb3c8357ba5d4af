-- Words parted by spaces.
use Rattle.std.proofs.Common.{◌≡◌, ℕ, List, [], ◌∷◌, ◌++◌, sym, ap, append_assoc, arith}
use Rattle.std.proofs.lemmas.List.{append-nil}
use Rattle.gas_text.specs.Words.{parted, spaced}

pub parted_spaced : (word : List ℕ) (words : List (List ℕ)) → parted (word ∷ words) ≡ word ++ spaced words
parted_spaced word [] = sym (append-nil word)
parted_spaced word (next ∷ words) = ap (λ text. word ++ (32 ∷ text)) (parted_spaced next words)

-- a word, and then those after it
pub words_after : (old mid new word : List ℕ) (words : List (List ℕ)) → mid ≡ old ++ word → new ≡ mid ++ spaced words → new ≡ old ++ parted (word ∷ words)
words_after old mid new word words first more = grind (arith, append_assoc, parted_spaced)
