-- A gas of finitely many states whose histories never merge returns.
use Rattle.std.proofs.Common.{◌≡◌, ℕ, zero, suc, ◌+◌, ◌-◌, ◌*◌, ◌^◌, ◌<◌, List, Bool, length, sym, ap, ◌∙◌, subst, arith}
use Rattle.std.specs.Fn.{iterate}
use Rattle.gas_terms.specs.Cells.{Cells, IsEvenTorus}
use Rattle.gas_terms.specs.Gas.{Gas, forward, back}
use Rattle.gas_terms.specs.Histories.{MoveByOneRule, Recurs}
use Rattle.gas_terms.proofs.Cells.{made}
use Rattle.gas_terms.proofs.Codes.{code, code_small, code_tells}
use Rattle.gas_terms.proofs.Histories.{stays_same, was_same, tick_forward, walls_forward, obstacles_forward, evens_forward, sides_forward, even_backs}
use Rattle.gas_terms.proofs.Iterate.{iterate_add}
use Rattle.gas_terms.proofs.Parity.{parity_after, parity-small}
use Rattle.gas_terms.proofs.Pigeonhole.{pigeonhole}
use Rattle.gas_terms.proofs.Steps.{forwards-backs}

-- An even number of steps later the rule is the same.
pub later_rule : (n : ℕ) (g : Gas) → MoveByOneRule (iterate forward (2 * n) g) g
later_rule n g = grind (arith, tick_forward, parity_after, parity-small, walls_forward, obstacles_forward)

-- What returns once returns again and again.
pub returns_again : (n k : ℕ) (g : Gas) → (iterate forward (2 * n) g).particles ≡ g.particles → (iterate forward (2 * n * k) g).particles ≡ g.particles
returns_again n zero g e = ap (λ m. (iterate forward m g).particles) (let z : 2 * n * zero ≡ 0 = omega arith in z)
returns_again n (suc k) g e =
    ap (λ m. (iterate forward m g).particles) (let z : 2 * n * suc k ≡ 2 * n * k + 2 * n = omega arith in z)
    ∙ ap (λ l. l.particles) (iterate_add forward (2 * n * k) (2 * n) g)
    ∙ stays_same (2 * n * k) (iterate forward (2 * n) g) g (later_rule n g) e
    ∙ returns_again n k g e

-- the number of the cells that have particles after so many rounds
state : Gas → ℕ → ℕ
state g i = code (iterate forward (2 * i) g).particles.bits

full_later : (n : ℕ) (g : Gas) → IsEvenTorus g.particles → length (iterate forward n g).particles.bits ≡ g.particles.width * g.particles.height
full_later n g t = grind (arith, sides_forward, evens_forward)

state_small : (g : Gas) (i : ℕ) → IsEvenTorus g.particles → state g i < 2 ^ (g.particles.width * g.particles.height)
unfolding state
state_small g i t = grind (arith, code, full_later, code_small)

-- Two sets of the same parts are one.
same_parts : (w w' h h' : ℕ) (xs ys : List Bool) → w ≡ w' → h ≡ h' → xs ≡ ys → made w h xs ≡ made w' h' ys
same_parts w w' h h' xs ys e f g = cc

by_parts : (a b : Cells) → a.width ≡ b.width → a.height ≡ b.height → a.bits ≡ b.bits → a ≡ b
unfolding made
by_parts a b e f h = same_parts a.width b.width a.height b.height a.bits b.bits e f h

same_state : (g : Gas) (i j : ℕ) → IsEvenTorus g.particles → state g i ≡ state g j → (iterate forward (2 * i) g).particles ≡ (iterate forward (2 * j) g).particles
unfolding state
same_state g i j t e = grind (arith, sides_forward, code_tells, full_later, by_parts)

-- The states at two times are one, so the start is the state at their difference.
met_before : (g : Gas) (i d : ℕ) → IsEvenTorus g.particles → (iterate forward (2 * i) g).particles ≡ (iterate forward (2 * (i + d)) g).particles
    → (iterate forward (2 * d) g).particles ≡ g.particles
met_before g i d t e =
    let split : iterate forward (2 * (i + d)) g ≡ iterate forward (2 * i) (iterate forward (2 * d) g) =
    ap (λ m. iterate forward m g) (let z : 2 * (i + d) ≡ 2 * i + 2 * d = omega arith in z) ∙ iterate_add forward (2 * i) (2 * d) g in
    was_same (2 * i) (iterate forward (2 * d) g) g (later_rule d g) (evens_forward (2 * d) g t) t
    (sym (ap (λ l. l.particles) split) ∙ sym e)

-- What returns forward returns back: steps forward from before lead here, and steps forward from here lead here too.
returned_before : (n : ℕ) (g : Gas) → IsEvenTorus g.particles → (iterate forward (2 * n) g).particles ≡ g.particles → (iterate back (2 * n) g).particles ≡ g.particles
returned_before n g t e =
    let b : Gas = iterate back (2 * n) g in
    let here : iterate forward (2 * n) b ≡ g = forwards-backs (2 * n) g t in
    let rule : MoveByOneRule g b = subst (λ l. MoveByOneRule l b) here (later_rule n b) in
    sym (was_same (2 * n) g b rule t (even_backs (2 * n) g t) (e ∙ ap (λ l. l.particles) (sym here)))

times_apart : (d k : ℕ) → 2 * d * k ≡ 2 * (d * k)
times_apart d k = omega arith

pub recurs : (g : Gas) → IsEvenTorus g.particles → Recurs g
recurs g t =
    let m = pigeonhole (2 ^ (g.particles.width * g.particles.height)) (state g) (λ i l. state_small g i t) in
    let d : ℕ = m.second - m.first in
    let later : m.second ≡ m.first + d = omega (arith, m.order) in
    let e = same_state g m.first m.second t m.same in
    let once : (iterate forward (2 * d) g).particles ≡ g.particles =
    met_before g m.first d t (e ∙ ap (λ i. (iterate forward (2 * i) g).particles) later) in
    record {
      rounds = d;
      some = omega (arith, m.order);
      bounded = omega (arith, m.bounded);
      forth = λ k. returns_again d k g once;
      back = λ k.
          ap (λ m. (iterate back m g).particles) (times_apart d k)
          ∙ returned_before (d * k) g t (ap (λ m. (iterate forward m g).particles) (sym (times_apart d k)) ∙ returns_again d k g once);
    }
