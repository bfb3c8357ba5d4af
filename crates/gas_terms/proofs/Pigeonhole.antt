-- Of more numbers than there are places, two have the same place.
use Rattle.std.proofs.Common.{◌≡◌, ℕ, zero, suc, ◌<◌, ◌≤◌, ◌≢◌, ◌⊎◌, inl, inr, cond, eqb, ⊎_elim, eq-or-lt_of_le, sym, ap, ◌∙◌, arith}
use Rattle.std.proofs.lemmas.Bool.{cases_eq, eq-eqb, ne_eqb}

-- one of the first n numbers has the value v under f, or none
find_value : (n : ℕ) (f : ℕ → ℕ) (v : ℕ) → ((i : ℕ) × (i < n) × (f i ≡ v)) ⊎ ((i : ℕ) → i < n → f i ≢ v)
find_value zero f v = inr (λ i l e. absurd (omega arith))
find_value (suc n) f v =
    elim (cases_eq (f n) v) [
      | inl e ↦ inl (n, omega arith, e)
      | inr ne ↦
          elim (find_value n f v) [
            | inl found ↦ inl (found.0, omega (arith, found.1), found.2)
            | inr none ↦
                inr (λ i l e.
                ⊎_elim (λ same. ne (ap f (sym same) ∙ e)) (λ less. none i less e) (eq-or-lt_of_le (let k : i ≤ n = omega arith in k)))
          ]
    ]

-- two of the numbers up to n with one value
pub record Meeting (n : ℕ) (f : ℕ → ℕ) : Type 0 where
  pub first : ℕ
  pub second : ℕ
  pub order : first < second
  pub bounded : second ≤ n
  pub same : f first ≡ f second

-- f with the value v in the place of n
moved : ℕ → ℕ → ℕ → ℕ
moved n v a = cond (eqb a n) v a

moved_small : (n v a : ℕ) → v < suc n → a < suc n → a ≢ v → moved n v a < n
unfolding moved
moved_small n v a lv la ne = grind (arith, cases_eq, eq-eqb, ne_eqb)

moved_apart : (n v a b : ℕ) → a ≢ v → b ≢ v → moved n v a ≡ moved n v b → a ≡ b
unfolding moved
moved_apart n v a b ne de e = grind (arith, cases_eq, eq-eqb, ne_eqb)

pub pigeonhole : (n : ℕ) (f : ℕ → ℕ) → ((i : ℕ) → i ≤ n → f i < n) → Meeting n f
pigeonhole zero f small = absurd (omega (arith, small 0 (omega arith)))
pigeonhole (suc n) f small =
    elim (find_value (suc n) f (f (suc n))) [
      | inl found ↦
          record { first = found.0; second = suc n; order = found.1; bounded = omega arith; same = found.2 }
      | inr none ↦
          let v : ℕ = f (suc n) in
          let m = pigeonhole n (λ i. moved n v (f i))
          (λ i l. moved_small n v (f i) (small (suc n) (omega arith)) (small i (omega arith)) (none i (omega arith))) in
          let a : m.first < suc n = omega (arith, m.order, m.bounded) in
          let b : m.second < suc n = omega (arith, m.bounded) in
          record {
            first = m.first;
            second = m.second;
            order = m.order;
            bounded = omega (arith, m.bounded);
            same = moved_apart n v (f m.first) (f m.second) (none m.first a) (none m.second b) m.same;
          }
    ]
