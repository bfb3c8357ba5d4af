-- Sums over lists of numbers.
use Rattle.std.proofs.Common.{◌≡◌, ◌≢◌, ℕ, zero, suc, ◌+◌, ◌*◌, ◌<◌, ◌≤◌, Bool, cond, eqb, List, [], ◌∷◌, ◌++◌, length, refl, sym, ap, ap₂, ◌∙◌, subst, arith, inl, inr}
use Rattle.std.specs.List.{fold}
use Rattle.std.proofs.lemmas.List.Sums.{fold-append, sum_by-cons}
use Rattle.std.proofs.lemmas.Bool.{cases_eq, cases_lt, eq-eqb, ne_eqb, lt-ltb, le-ltb}
use Rattle.claim_desk.specs.Draws.{times, once_below}
use Rattle.phase_step.specs.Amounts.{Amounts, sum_first, sum_each}
use Rattle.phase_step.proofs.Amounts.{AddUp, grouped, sum_same, sum_split, sum_both, sum_none}

times-cons : (x y : ℕ) (ys : List ℕ) → times x (y ∷ ys) ≡ cond (eqb y x) 1 0 + times x ys
times-cons x y ys = sum_by-cons (λ (y : ℕ). cond (eqb y x) 1 0) y ys

pub one_below : (n x : ℕ) → x < n → once_below n x ≡ 1
one_below n x less = ap (λ (b : Bool). cond {A = ℕ} b 1 0) (lt-ltb x n less)

none_past : (n x : ℕ) → n ≤ x → once_below n x ≡ 0
none_past n x past = ap (λ (b : Bool). cond {A = ℕ} b 1 0) (le-ltb x n past)

module _ {A : Type 0} (m : Amounts A) (is : AddUp m) (f : ℕ → A) where
  sum_from : (a : A) (xs : List ℕ) → fold (λ a x. m.plus a (f x)) a xs ≡ m.plus a (sum_each m f xs)
  sum_from a [] = is.right a
  sum_from a (x ∷ xs) =
      sum_from (m.plus a (f x)) xs
      ∙ (grouped m is a (f x) (sum_each m f xs)
      ∙ ap (m.plus a) (sym (sum_from (m.plus m.none (f x)) xs ∙ ap (λ y. m.plus y (sum_each m f xs)) (is.left (f x)))))

  pub each_append : (xs ys : List ℕ) → sum_each m f (xs ++ ys) ≡ m.plus (sum_each m f xs) (sum_each m f ys)
  each_append xs ys = fold-append (λ a x. m.plus a (f x)) m.none xs ys ∙ sum_from (sum_each m f xs) ys

  -- of so many, each of at most k particles
  pub each_few : (P : ℕ → A → Type 0) → P 0 m.none → ((i j : ℕ) (a b : A) → P i a → P j b → P (i + j) (m.plus a b)) → (k : ℕ) → ((i : ℕ) → P k (f i)) → (xs : List ℕ) → P (k * length xs) (sum_each m f xs)
  each_few P none plus k few [] = subst (λ i. P i m.none) (let e : 0 ≡ k * 0 = omega arith in e) none
  each_few P none plus k few (x ∷ xs) =
      let e : k + k * length xs ≡ k * suc (length xs) = omega arith in
      subst (P (k * suc (length xs))) (sym (sum_from (m.plus m.none (f x)) xs ∙ ap (λ y. m.plus y (sum_each m f xs)) (is.left (f x))))
      (subst (λ i. P i (m.plus (f x) (sum_each m f xs))) e (plus k (k * length xs) (f x) (sum_each m f xs) (few x) (each_few P none plus k few xs)))

  -- that of x so many times
  abbrev often : ℕ → ℕ → A
  often k x = sum_first m (λ _. f x) k

  other : (i x : ℕ) → i ≢ x → m.none ≡ often (cond (eqb i x) 1 0) x
  other i x ne = ap (λ (b : Bool). often (cond b 1 0) x) (sym (ne_eqb i x ne))

  one_of : (i n : ℕ) → i < n → sum_first m (λ x. often (cond (eqb i x) 1 0) x) n ≡ f i
  one_of i zero less = absurd (omega arith)
  one_of i (suc n) less =
      elim (cases_eq i n) [
        | inl e ↦
            ap₂ m.plus (sym (sum_none m is (λ x. often (cond (eqb i x) 1 0) x) n (λ x h. other i x (λ same. absurd (omega (arith, e, same, h))))))
            (ap (λ x. often (cond (eqb i x) 1 0) x) (sym e) ∙ (ap (λ (b : Bool). often (cond b 1 0) i) (eq-eqb i i refl) ∙ is.left (f i)))
            ∙ is.left (f i)
        | inr ne ↦ ap₂ m.plus (one_of i n (omega (arith, ne))) (sym (other i n ne)) ∙ sym (is.right (f i))
      ]

  -- a sum over numbers below n, by how often the list has each
  each_counted : (n : ℕ) (numbers : List ℕ) → ((x : ℕ) → n ≤ x → times x numbers ≡ 0) → sum_each m f numbers ≡ sum_first m (λ x. often (times x numbers) x) n
  each_counted n [] past = sum_none m is (λ x. often (times x []) x) n (λ x less. refl)
  each_counted n (i ∷ numbers) past =
      let here : cond {A = ℕ} (eqb i i) 1 0 ≡ 1 = ap (λ (b : Bool). cond {A = ℕ} b 1 0) (eq-eqb i i refl) in
      let below : i < n = elim (cases_lt i n) [
        | inl less ↦ less
        | inr over ↦ let t = times-cons i i numbers in let u = past i over in absurd (omega arith)
      ] in
      sum_from (m.plus m.none (f i)) numbers
      ∙ (ap₂ m.plus (is.left (f i) ∙ sym (one_of i n below)) (each_counted n numbers (λ x h. let t = times-cons x i numbers in let u = past x h in omega arith))
      ∙ (sym (sum_both m is (λ x. often (cond (eqb i x) 1 0) x) (λ x. often (times x numbers) x) n)
      ∙ sum_same m _ _ n (λ x less. sym (ap (λ k. often k x) (times-cons x i numbers) ∙ sum_split m is (λ _. f x) 0 (cond (eqb i x) 1 0) (times x numbers)))))

  -- each number below n once, in whatever order
  pub each_once : (n : ℕ) (numbers : List ℕ) → ((x : ℕ) → times x numbers ≡ once_below n x) → sum_each m f numbers ≡ sum_first m f n
  each_once n numbers once =
      each_counted n numbers (λ x past. once x ∙ none_past n x past)
      ∙ sum_same m _ f n (λ x less. ap (λ k. often k x) (once x ∙ one_below n x less) ∙ is.left (f x))
