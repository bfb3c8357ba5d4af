-- Lists whose items are those of a rule, in order.
use Rattle.std.proofs.lemmas.Option.{get_or_from_slice_get}
use Rattle.std.proofs.Common.{◌≡◌, ℕ, zero, suc, ◌+◌, ◌<◌, ◌≤◌, List, [], ◌∷◌, ◌++◌, length, All, Some, slice_get, slice_index_or, refl, sym, ap, subst, ◌∙◌, inl, inr, arith, eq-or-lt_of_le}

pub at_end : {X : Type 0} (xs : List X) (x : X) → slice_get (xs ++ x ∷ []) (length xs) ≡ Some x
at_end [] x = refl
at_end (y ∷ xs) x = at_end xs x

pub before_end : {X : Type 0} (xs rest : List X) (i : ℕ) → i < length xs → slice_get (xs ++ rest) i ≡ slice_get xs i
before_end [] rest i h = let no : ⊥ = omega (arith, h) in absurd no
before_end (y ∷ xs) rest zero h = refl
before_end (y ∷ xs) rest (suc i) h = before_end xs rest i (omega (arith, h))

-- a list whose items are those of a rule, and the next one at its end
pub one_more : {X : Type 0} (fresh : ℕ → X) (xs ys : List X) (n : ℕ) → length xs ≡ n → ys ≡ xs ++ fresh n ∷ []
    → ((i : ℕ) → i < n → slice_get xs i ≡ Some (fresh i)) → (i : ℕ) → i < n + 1 → slice_get ys i ≡ Some (fresh i)
one_more fresh xs ys n long pushed so_far i h =
    let most : i ≤ n = omega (arith, h) in
    elim (eq-or-lt_of_le most) [
      | inl same ↦ rw (pushed, same) (ap (λ k. slice_get (xs ++ fresh n ∷ []) k) (sym long) ∙ at_end xs (fresh n))
      | inr below ↦ rw pushed (before_end xs (fresh n ∷ []) i (omega (arith, below, long)) ∙ so_far i below)
    ]

-- the first of a list whose items are those of a rule from n on
pub first_is : {X : Type 0} (fresh : ℕ → X) (x : X) (xs ys : List X) (n : ℕ) → ys ≡ x ∷ xs
    → ((k : ℕ) (d : X) → k < length ys → slice_index_or ys k d ≡ fresh (n + k)) → x ≡ fresh n
first_is fresh x xs ys n split all =
    subst (λ l. slice_index_or l 0 x ≡ fresh (n + 0)) split (all 0 x (let long = ap length split in omega (arith, long))) ∙ ap fresh (omega arith)

-- and the rest
pub rest_is : {X : Type 0} (fresh : ℕ → X) (x : X) (xs ys : List X) (n : ℕ) → ys ≡ x ∷ xs
    → ((k : ℕ) (d : X) → k < length ys → slice_index_or ys k d ≡ fresh (n + k))
    → (k : ℕ) (d : X) → k < length xs → slice_index_or xs k d ≡ fresh (n + 1 + k)
rest_is fresh x xs ys n split all k d below =
    subst (λ l. slice_index_or l (suc k) d ≡ fresh (n + suc k)) split (all (suc k) d (let long = ap length split in omega (arith, long, below))) ∙ ap fresh (omega arith)

-- what all items of the rule have, all of the list have
pub all_of_rule : {X : Type 0} (P : X → Type 0) (fresh : ℕ → X) (xs : List X) → ((i : ℕ) → P (fresh i))
    → ((i : ℕ) → i < length xs → slice_get xs i ≡ Some (fresh i)) → All P xs
all_of_rule P fresh xs have rule k d below = subst P (sym (get_or_from_slice_get xs k (fresh k) d (rule k below))) (have k)
