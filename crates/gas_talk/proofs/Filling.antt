-- A read into the room behind what is kept.
use Rattle.std.proofs.Common.{◌≡◌, ◌≤◌, ◌+◌, ℕ, List, ◌++◌, length, take, ap, ◌∙◌, append_assoc}
use Rattle.std.proofs.Math.Seq.{take-append-add}
use Rattle.std.proofs.lemmas.List.{take-take, take-append-le}

-- what is left of it is what was kept, and the n bytes that were read
pub kept_and_read : (kept grown read rest tail : List ℕ) (at n room : ℕ) → at ≡ length kept → take (length kept) grown ≡ kept → n ≤ length read → at + n ≤ room
    → take (at + n) (take room (take at grown ++ (read ++ rest) ++ tail)) ≡ kept ++ take n read
kept_and_read kept grown read rest tail at n room len front few fits =
    take-take (at + n) room _ fits
    ∙ rw (len, front) (
    ap (take (length kept + n)) (append_assoc kept (read ++ rest) tail ∙ ap (λ xs. kept ++ xs) (append_assoc read rest tail))
    ∙ take-append-add kept (read ++ (rest ++ tail)) n
    ∙ ap (λ xs. kept ++ xs) (take-append-le n read (rest ++ tail) few)
    )
