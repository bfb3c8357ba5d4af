-- Counts of the seats that made entries.
use Rattle.std.proofs.Common.{◌≡◌, ℕ, suc, ◌+◌, ◌≤◌, ◌==◌, true, false, Bool, cond, List, [], ◌∷◌, ◌++◌, length, All, refl, sym, ap, ◌∙◌, arith}
use Rattle.std.specs.Prelude.{map, reverse}
use Rattle.std.proofs.lemmas.Bool.Decides.{nat_tests}
use Rattle.std.proofs.lemmas.List.{reverse-append, length-reverse, reverse-reverse}
use Rattle.gas_seats.specs.TurnSeats.{TurnSeatView, entries_made}
use Rattle.gas_hall.specs.Busy.{busy, busy_seats}

-- 1 for a seat whose count is another
abbrev one_if_busy : ℕ → ℕ → ℕ
one_if_busy m n = cond (m == n) 0 1

at_most_one : (m n : ℕ) → one_if_busy m n ≤ 1
at_most_one m n = bit (m == n) where
  bit : (b : Bool) → cond b 0 1 ≤ 1
  bit true = omega arith
  bit false = omega arith

idle : (m n : ℕ) → n ≡ m → one_if_busy m n ≡ 0
idle m n same = let one : (m == n) ≡ true = grind (arith, nat_tests, same) in ap (λ b. cond b 0 1) one

busy_end : {X : Type 0} (made : X → ℕ) (before after : List X) (x y : X) → length before ≡ length after
    → busy made (before ++ x ∷ []) (after ++ y ∷ []) ≡ busy made before after + one_if_busy (made x) (made y)
busy_end made [] [] x y long = omega arith
busy_end made [] (z ∷ after) x y long = absurd (omega (arith, long))
busy_end made (w ∷ before) [] x y long = absurd (omega (arith, long))
busy_end made (w ∷ before) (z ∷ after) x y long =
    let rest = busy_end made before after x y (omega (arith, long)) in
    omega (arith, rest)

-- one more that was served
pub busy_served : {X : Type 0} (made : X → ℕ) (all left done back : List X) (x y : X) (n : ℕ) → all ≡ left ++ x ∷ [] → back ≡ done ++ y ∷ [] → length left ≡ length done
    → busy made left done ≤ n → busy made all back ≤ n + 1
busy_served made all left done back x y n is more long few =
    let all_of = busy_end made left done x y long in
    let one = at_most_one (made x) (made y) in
    let here : busy made (left ++ x ∷ []) (done ++ y ∷ []) ≤ n + 1 = omega (arith, all_of, one, few) in
    rw (is, more) here

-- one more that made none
pub busy_unserved : {X : Type 0} (made : X → ℕ) (all left done back : List X) (x y : X) (n : ℕ) → all ≡ left ++ x ∷ [] → back ≡ done ++ y ∷ [] → length left ≡ length done
    → busy made left done ≤ n → made y ≡ made x → busy made all back ≤ n
busy_unserved made all left done back x y n is more long few same =
    let all_of = busy_end made left done x y long in
    let none = idle (made x) (made y) same in
    let here : busy made (left ++ x ∷ []) (done ++ y ∷ []) ≤ n = omega (arith, all_of, none, few) in
    rw (is, more) here

busy_reverse : {X : Type 0} (made : X → ℕ) (xs ys : List X) → length xs ≡ length ys → busy made (reverse xs) (reverse ys) ≡ busy made xs ys
busy_reverse made [] [] long = refl
busy_reverse made [] (y ∷ ys) long = absurd (omega (arith, long))
busy_reverse made (x ∷ xs) [] long = absurd (omega (arith, long))
busy_reverse made (x ∷ xs) (y ∷ ys) long =
    let here = length-reverse xs in
    let other = length-reverse ys in
    let rest = busy_reverse made xs ys (omega (arith, long)) in
    let end = busy_end made (reverse xs) (reverse ys) x y (omega (arith, long, here, other)) in
    rw (reverse-append (x ∷ []) xs, reverse-append (y ∷ []) ys) (omega (arith, end, rest))

-- lists that are turned round, counted, and turned round again
pub busy_turned : {X : Type 0} (made : X → ℕ) (xs ys zs back : List X) (n : ℕ) → ys ≡ reverse xs → length zs ≡ length ys → busy made ys zs ≤ n → back ≡ reverse zs → busy made xs back ≤ n
busy_turned made xs ys zs back n turned long few again =
    let same : busy made xs back ≡ busy made ys zs =
    ap (λ l. busy made xs l) again ∙ ap (λ l. busy made l (reverse zs)) (sym (ap reverse turned ∙ reverse-reverse xs)) ∙ busy_reverse made ys zs (sym long) in
    omega (arith, same, few)

-- seats that began without entries, and those that have the same counts as they have now
pub busy_from_none : (before now after : List TurnSeatView) → All (λ s. entries_made s ≡ 0) before → length before ≡ length now → map entries_made after ≡ map entries_made now
    → busy_seats after ≡ busy entries_made before now
busy_from_none [] [] [] none long same = refl
busy_from_none [] [] (z ∷ after) none long same = absurd (cc same)
busy_from_none [] (y ∷ now) after none long same = absurd (omega (arith, long))
busy_from_none (x ∷ before) [] after none long same = absurd (omega (arith, long))
busy_from_none (x ∷ before) (y ∷ now) [] none long same = absurd (cc same)
busy_from_none (x ∷ before) (y ∷ now) (z ∷ after) none long same =
    let first : entries_made z ≡ entries_made y = cc same in
    let rest : map entries_made after ≡ map entries_made now = cc same in
    let zero_made : entries_made x ≡ 0 = none 0 x (omega arith) in
    let others = busy_from_none before now after (λ k d lt. none (suc k) d (omega (arith, lt))) (omega (arith, long)) rest in
    ap (λ n. one_if_busy 0 n + busy_seats after) first ∙ ap (λ n. one_if_busy n (entries_made y) + busy_seats after) (sym zero_made) ∙ ap (λ n. one_if_busy (entries_made x) (entries_made y) + n) others
