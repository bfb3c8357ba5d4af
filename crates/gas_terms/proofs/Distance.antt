-- Distances on an axis that closes on itself.
use Rattle.std.proofs.Common.{◌≡◌, ℕ, ◌+◌, ◌-◌, ◌%◌, ◌<◌, ◌≤◌, min, max, Bool, true, false, arith, rules}
use Rattle.std.proofs.Math.Nat.{mod-eq_of_lt, add-mod_right}
use Rattle.std.proofs.lemmas.Bool.{cases_lt}
use Rattle.gas_terms.specs.Velocity.{has_parity}
use Rattle.gas_terms.specs.Gas.{along}
use Rattle.gas_terms.specs.Block.{other_coordinate}
use Rattle.gas_terms.specs.Symmetry.{distance}
use Rattle.gas_terms.proofs.Axis.{up_is, down_is}

over_by : (n x a : ℕ) → a ≤ x → x < n → (x + n - a) % n ≡ x - a
over_by n x a h l = grind (arith, add-mod_right, mod-eq_of_lt)

under_by : (n x a : ℕ) → x < a → a < n → (x + n - a) % n ≡ x + n - a
under_by n x a h l = let b : x + n - a < n = omega arith in mod-eq_of_lt b

-- What the distance is, without remainders.
apart_less : (n x a : ℕ) → a < x → x < n → distance n x a ≡ min (x - a) (a + n - x)
apart_less n x a h l = let p : a ≤ x = omega arith in let e = over_by n x a p l in let f = under_by n a x h l in cc

apart_more : (n x a : ℕ) → x < a → a < n → distance n x a ≡ min (a - x) (x + n - a)
apart_more n x a h l = let p : x ≤ a = omega arith in let e = under_by n x a h l in let f = over_by n a x p l in omega arith

pub distance_self : (n x : ℕ) → x < n → distance n x x ≡ 0
distance_self n x l = let p : x ≤ x = omega arith in let e = over_by n x x p l in omega arith

-- the distance of two numbers on a line of n that is closed to a ring
abbrev ring : ℕ → ℕ → ℕ → ℕ
ring n x a = min (max (x - a) (a - x)) (n - max (x - a) (a - x))

pub distance_is : (n x a : ℕ) → x < n → a < n → distance n x a ≡ ring n x a
distance_is n x a l m = grind (arith, cases_lt, apart_less, apart_more, distance_self)

ring_triangle : (n x a c : ℕ) → x < n → a < n → c < n → ring n x c ≤ ring n x a + ring n a c
ring_triangle n x a c l m k = omega arith

pub triangle : (n x a c : ℕ) → x < n → a < n → c < n → distance n x c ≤ distance n x a + distance n a c
triangle n x a c l m k = search (rules, distance_is, ring_triangle)

-- A block's other coordinate is at most one away.
along_near : (n x : ℕ) (b : Bool) → x < n → ring n x (along n b x) ≤ 1
along_near n x true l = let u = up_is n x l in grind arith
along_near n x false l = let d = down_is n x l in grind arith

pub other_near : (n p x : ℕ) → x < n → along n (has_parity p x) x < n → distance n x (other_coordinate n p x) ≤ 1
other_near n p x l m = let e = distance_is n x (along n (has_parity p x) x) l m in let k = along_near n x (has_parity p x) l in omega arith

pub distance_back : (n x a : ℕ) → distance n x a ≡ distance n a x
distance_back n x a = omega arith
