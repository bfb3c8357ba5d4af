-- Sums of amounts of any kind.
use Rattle.std.specs.Prelude.{ℕ, zero, suc, List}
use Rattle.std.specs.List.{fold}

-- how amounts of a kind are added up
pub record Amounts (A : Type 0) : Type 0 where
  pub none : A
  pub plus : A → A → A

-- the first n of them together
abbrev pub sum_first : {A : Type 0} → Amounts A → (ℕ → A) → ℕ → A
sum_first m f zero = m.none
sum_first m f (suc n) = m.plus (sum_first m f n) (f n)

-- and those of a list
abbrev pub sum_each : {A X : Type 0} → Amounts A → (X → A) → List X → A
sum_each m f xs = fold (λ a x. m.plus a (f x)) m.none xs
