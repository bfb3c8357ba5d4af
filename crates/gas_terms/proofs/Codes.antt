-- A list of truth values as a number, by its binary digits.
use Rattle.std.proofs.Common.{◌≡◌, ℕ, ◌+◌, ◌*◌, ◌^◌, ◌<◌, Bool, true, false, cond, List, [], ◌∷◌, length, refl, ap₂, arith}
use Rattle.std.proofs.Math.Nat.{pow-succ'}

pub digit : Bool → ℕ
digit b = cond b 1 0

pub code : List Bool → ℕ
code [] = 0
code (b ∷ bs) = digit b + 2 * code bs

digit_small : (b : Bool) → digit b < 2
unfolding digit
digit_small true = omega arith
digit_small false = omega arith

digit_tells : (a b : Bool) → digit a ≡ digit b → a ≡ b
unfolding digit
digit_tells true true e = refl
digit_tells true false e = absurd (omega arith)
digit_tells false true e = absurd (omega arith)
digit_tells false false e = refl

pub code_small : (bs : List Bool) → code bs < 2 ^ length bs
unfolding code
code_small [] = omega arith
code_small (b ∷ bs) = omega (arith, digit_small b, code_small bs, pow-succ' 2 (length bs))

pub code_tells : (cs bs : List Bool) → length cs ≡ length bs → code cs ≡ code bs → cs ≡ bs
unfolding code
code_tells [] [] l e = refl
code_tells [] (b ∷ bs) l e = absurd (omega arith)
code_tells (c ∷ cs) [] l e = absurd (omega arith)
code_tells (c ∷ cs) (b ∷ bs) l e =
    let head : digit c ≡ digit b = omega (arith, digit_small c, digit_small b) in
    let tail : code cs ≡ code bs = omega (arith, digit_small c, digit_small b) in
    ap₂ (λ d ds. d ∷ ds) (digit_tells c b head) (code_tells cs bs (omega arith) tail)
