-- Places on a circle of n places.
use Rattle.std.proofs.Common.{◌≡◌, ℕ, ◌+◌, ◌*◌, ◌%◌, ◌<◌, ◌∙◌, ap, arith}
use Rattle.std.proofs.lemmas.Nat.{mod-mul-add}

pub stays : (n k : ℕ) → k < n → k % n ≡ k
stays n k less = let e : k ≡ 0 * n + k = omega arith in ap (λ m. m % n) e ∙ mod-mul-add 0 n k less

pub wraps : (n k : ℕ) → k < n → (k + n) % n ≡ k
wraps n k less = let e : k + n ≡ 1 * n + k = omega arith in ap (λ m. m % n) e ∙ mod-mul-add 1 n k less
