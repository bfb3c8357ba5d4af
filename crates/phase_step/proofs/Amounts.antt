-- Sums of amounts of any kind: in parts, term by term, as other amounts, and how large they are.
use Rattle.std.proofs.Common.{◌≡◌, ℕ, zero, suc, ◌+◌, ◌-◌, ◌*◌, ◌<◌, ◌≤◌, ◌++◌, [], ◌∷◌, List, refl, sym, ap, ap₂, ◌∙◌, subst, arith}
use Rattle.std.specs.List.{range_with_len}
use Rattle.std.proofs.lemmas.List.Sums.{fold-append}
use Rattle.bit_tile.proofs.Sums.{range-suc}
use Rattle.phase_step.specs.Amounts.{Amounts, sum_first, sum_each}

module _ {A : Type 0} (m : Amounts A) where
  pub sum_same : (f g : ℕ → A) (n : ℕ) → ((i : ℕ) → i < n → f i ≡ g i) → sum_first m f n ≡ sum_first m g n
  sum_same f g zero same = refl
  sum_same f g (suc n) same = ap₂ m.plus (sum_same f g n (λ i less. same i (omega arith))) (same n (omega arith))

  pub sum_from_zero : (f : ℕ → A) (n : ℕ) → sum_first m (λ i. f (0 + i)) n ≡ sum_first m f n
  sum_from_zero f n = sum_same (λ i. f (0 + i)) f n (λ i less. ap f (omega arith))

  -- one more, where they are counted from `from` on
  pub sum_next : (f : ℕ → A) (from i : ℕ) (a here : A) → from ≤ i → a ≡ sum_first m f (i - from) → here ≡ f (i - from) → m.plus a here ≡ sum_first m f (i + 1 - from)
  sum_next f from i a here low so_far is = let next : suc (i - from) ≡ i + 1 - from = omega arith in ap₂ m.plus so_far is ∙ ap (sum_first m f) next

  -- amounts of at most k particles each
  pub sum_few : (P : ℕ → A → Type 0) → P 0 m.none → ((i j : ℕ) (a b : A) → P i a → P j b → P (i + j) (m.plus a b)) → (k : ℕ) (f : ℕ → A) → ((i : ℕ) → P k (f i)) → (n : ℕ) → P (k * n) (sum_first m f n)
  sum_few P none plus k f few zero = subst (λ i. P i m.none) (let e : 0 ≡ k * 0 = omega arith in e) none
  sum_few P none plus k f few (suc n) =
      let e : k * n + k ≡ k * suc n = omega arith in
      subst (λ i. P i (sum_first m f (suc n))) e (plus (k * n) k (sum_first m f n) (f n) (sum_few P none plus k f few n) (few n))

  -- a list with one more, and one of the numbers below n
  pub each_last : {X : Type 0} (f : X → A) (xs : List X) (x : X) → sum_each m f (xs ++ x ∷ []) ≡ m.plus (sum_each m f xs) (f x)
  each_last f xs x = fold-append (λ a x. m.plus a (f x)) m.none xs (x ∷ [])

  pub each_below : (f : ℕ → A) (n : ℕ) → sum_each m f (range_with_len 0 n) ≡ sum_first m f n
  each_below f zero = refl
  each_below f (suc n) =
      ap (sum_each m f) (range-suc 0 n)
      ∙ (each_last f (range_with_len 0 n) (0 + n) ∙ ap₂ (λ a i. m.plus a (f i)) (each_below f n) (let e : 0 + n ≡ n = omega arith in e))

-- by a map of amounts
pub sum_as : {A B : Type 0} (m : Amounts A) (o : Amounts B) (h : A → B) → o.none ≡ h m.none → ((a b : A) → o.plus (h a) (h b) ≡ h (m.plus a b)) → (f : ℕ → A) (n : ℕ) → sum_first o (λ i. h (f i)) n ≡ h (sum_first m f n)
sum_as m o h none plus f zero = none
sum_as m o h none plus f (suc n) = ap (λ s. o.plus s (h (f n))) (sum_as m o h none plus f n) ∙ plus (sum_first m f n) (f n)

-- they may be added in any order
pub record AddUp {A : Type 0} (m : Amounts A) : Type 0 where
  pub left : (a : A) → m.plus m.none a ≡ a
  pub right : (a : A) → a ≡ m.plus a m.none
  pub crossed : (a b c d : A) → m.plus (m.plus a b) (m.plus c d) ≡ m.plus (m.plus a c) (m.plus b d)

module _ {A : Type 0} (m : Amounts A) (is : AddUp m) where
  pub grouped : (a b c : A) → m.plus (m.plus a b) c ≡ m.plus a (m.plus b c)
  grouped a b c = ap (m.plus (m.plus a b)) (sym (is.left c)) ∙ (is.crossed a b m.none c ∙ ap (λ d. m.plus d (m.plus b c)) (sym (is.right a)))

  pub sum_split : (f : ℕ → A) (first a b : ℕ) → sum_first m (λ i. f (first + i)) (a + b) ≡ m.plus (sum_first m (λ i. f (first + i)) a) (sum_first m (λ i. f (first + a + i)) b)
  sum_split f first a zero = ap (sum_first m (λ i. f (first + i))) (let e : a + 0 ≡ a = omega arith in e) ∙ is.right (sum_first m (λ i. f (first + i)) a)
  sum_split f first a (suc b) =
      ap (sum_first m (λ i. f (first + i))) (let e : a + suc b ≡ suc (a + b) = omega arith in e)
      ∙ (ap₂ (λ s i. m.plus s (f i)) (sum_split f first a b) (let e : first + (a + b) ≡ first + a + b = omega arith in e)
      ∙ grouped (sum_first m (λ i. f (first + i)) a) (sum_first m (λ i. f (first + a + i)) b) (f (first + a + b)))

  pub sum_both : (f g : ℕ → A) (n : ℕ) → sum_first m (λ i. m.plus (f i) (g i)) n ≡ m.plus (sum_first m f n) (sum_first m g n)
  sum_both f g zero = is.right m.none
  sum_both f g (suc n) = ap (λ s. m.plus s (m.plus (f n) (g n))) (sum_both f g n) ∙ is.crossed (sum_first m f n) (sum_first m g n) (f n) (g n)

  pub sum_none : (f : ℕ → A) (n : ℕ) → ((i : ℕ) → i < n → m.none ≡ f i) → m.none ≡ sum_first m f n
  sum_none f zero none = refl
  sum_none f (suc n) none = is.right m.none ∙ ap₂ m.plus (sum_none f n (λ i less. none i (omega arith))) (none n (omega arith))
