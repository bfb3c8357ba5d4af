-- Writing one list after another.
use Rattle.std.proofs.Common.{◌≡◌, ℕ, ◌+◌, ◌-◌, ◌≤◌, List, ◌++◌, length, take, drop, Option, sym, ap, subst, ◌∙◌, arith}
use Rattle.std.proofs.KnownBytes.{Appends-trans}
use Rattle.std.specs.Io.KnownBytes.{Appends}
use Rattle.std.proofs.lemmas.List.{take-append-drop, length-drop, length-take}
use Rattle.std.proofs.Math.Seq.{take-append-add, take-length}

-- so many bytes more
more_of : (a b c : Option (List ℕ)) (bytes : List ℕ) (i n : ℕ) → i ≤ length bytes → Appends a b (take i bytes) → Appends b c (take n (drop i bytes)) → Appends a c (take (i + n) bytes)
more_of a b c bytes i n le p q =
    let len : length (take i bytes) ≡ i = omega (arith, length-take i bytes) in
    let whole : take (i + n) bytes ≡ take i bytes ++ take n (drop i bytes) =
    ap (λ (l : List ℕ). take (i + n) l) (sym (take-append-drop i bytes)) ∙ ap (λ (k : ℕ). take (k + n) (take i bytes ++ drop i bytes)) (sym len) ∙ take-append-add (take i bytes) (drop i bytes) n in
    subst (λ (l : List ℕ). Appends a c l) (sym whole) (Appends-trans a b c (take i bytes) (take n (drop i bytes)) p q)

pub more_written : (a b c : Option (List ℕ)) (bytes : List ℕ) (i n : ℕ) → i ≤ length bytes → Appends a b (take i bytes) → Appends b c (take n (take (length bytes - i) (drop i bytes))) → Appends a c (take (i + n) bytes)
more_written a b c bytes i n le p q = grind (arith, length-drop, take-length, more_of, subst)
