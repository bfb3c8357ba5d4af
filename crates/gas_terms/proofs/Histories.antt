-- Gases that move by one rule: their histories neither merge nor part.
use Rattle.std.proofs.Common.{◌≡◌, ℕ, zero, suc, pos, ◌+ℤ◌, ◌-ℤ◌, refl, sym, ap, ap₂, ◌∙◌, arith, rules}
use Rattle.std.proofs.lemmas.Int.{ints}
use Rattle.std.specs.Fn.{iterate}
use Rattle.gas_terms.specs.Velocity.{parity}
use Rattle.gas_terms.specs.Cells.{Cells, joined, HasSidesOf, IsEvenTorus}
use Rattle.gas_terms.specs.Gas.{Gas, streamed, solid, forward, back}
use Rattle.gas_terms.specs.Symmetry.{with_particles}
use Rattle.gas_terms.specs.Histories.{MoveByOneRule, origin}
use Rattle.gas_terms.proofs.Parity.{parity-next}
use Rattle.gas_terms.proofs.Steps.{streamed-streamed, forwards-backs, even_forward, even_back}

-- a step of both
rule_forward : (g k : Gas) → MoveByOneRule g k → MoveByOneRule (forward g) (forward k)
rule_forward g k r = grind (arith, parity-next)

same_solid : (g k : Gas) → MoveByOneRule g k → solid g ≡ solid k
same_solid g k r = ap₂ (λ a b. joined a b) r.walls r.obstacles

-- What was the same stays so.
pub stays_same : (n : ℕ) (g k : Gas) → MoveByOneRule g k → g.particles ≡ k.particles → (iterate forward n g).particles ≡ (iterate forward n k).particles
stays_same zero g k r e = e
stays_same (suc n) g k r e =
    stays_same n (forward g) (forward k) (rule_forward g k r)
    (ap (λ p. streamed p g.particles (solid g)) r.ticks
    ∙ ap (λ s. streamed (parity k.tick) g.particles s) (same_solid g k r)
    ∙ ap (λ c. streamed (parity k.tick) c (solid k)) e)

-- What is the same was the same: the rule is its own inverse.
pub was_same : (n : ℕ) (g k : Gas) → MoveByOneRule g k → IsEvenTorus g.particles → IsEvenTorus k.particles
    → (iterate forward n g).particles ≡ (iterate forward n k).particles → g.particles ≡ k.particles
was_same zero g k r t u e = e
was_same (suc n) g k r t u e =
    let after : (forward g).particles ≡ (forward k).particles =
    was_same n (forward g) (forward k) (rule_forward g k r) (even_forward g t) (even_forward k u) e in
    sym (streamed-streamed (parity g.tick) g.particles (solid g) t.sides t.full)
    ∙ ap (λ p. streamed p (forward g).particles (solid g)) r.ticks
    ∙ ap (λ s. streamed (parity k.tick) (forward g).particles s) (same_solid g k r)
    ∙ ap (λ c. streamed (parity k.tick) c (solid k)) after
    ∙ streamed-streamed (parity k.tick) k.particles (solid k) u.sides u.full

-- Ticks, walls and obstacles after many steps.
pub tick_forward : (n : ℕ) (g : Gas) → (iterate forward n g).tick ≡ g.tick +ℤ pos n
tick_forward zero g = omega (arith, ints)
tick_forward (suc n) g = tick_forward n (forward g) ∙ omega (arith, ints)

tick_back : (n : ℕ) (g : Gas) → (iterate back n g).tick ≡ g.tick -ℤ pos n
tick_back zero g = omega (arith, ints)
tick_back (suc n) g = tick_back n (back g) ∙ omega (arith, ints)

pub walls_forward : (n : ℕ) (g : Gas) → (iterate forward n g).walls ≡ g.walls
walls_forward zero g = refl
walls_forward (suc n) g = walls_forward n (forward g)

pub obstacles_forward : (n : ℕ) (g : Gas) → (iterate forward n g).obstacles ≡ g.obstacles
obstacles_forward zero g = refl
obstacles_forward (suc n) g = obstacles_forward n (forward g)

walls_back : (n : ℕ) (g : Gas) → (iterate back n g).walls ≡ g.walls
walls_back zero g = refl
walls_back (suc n) g = walls_back n (back g)

obstacles_back : (n : ℕ) (g : Gas) → (iterate back n g).obstacles ≡ g.obstacles
obstacles_back zero g = refl
obstacles_back (suc n) g = obstacles_back n (back g)

-- So do the sides.
pub evens_forward : (n : ℕ) (g : Gas) → IsEvenTorus g.particles → IsEvenTorus (iterate forward n g).particles
evens_forward zero g t = t
evens_forward (suc n) g t = evens_forward n (forward g) (even_forward g t)

pub sides_forward : (n : ℕ) (g : Gas) → HasSidesOf (iterate forward n g).particles g.particles
sides_forward zero g = record { wide = refl; high = refl }
sides_forward (suc n) g = let s = sides_forward n (forward g) in record { wide = s.wide; high = s.high }

-- What leads to given particles in n steps.
origin_rule : (n : ℕ) (g : Gas) (after : Cells) →
    MoveByOneRule (with_particles g (origin n g after)) (iterate back n (with_particles (iterate forward n g) after))
origin_rule n g after = search (rules, tick_back, tick_forward, ints, walls_back, walls_forward, obstacles_back, obstacles_forward)

pub origin_leads : (n : ℕ) (g : Gas) (after : Cells) → IsEvenTorus after → (iterate forward n (with_particles g (origin n g after))).particles ≡ after
origin_leads n g after t =
    let k : Gas = with_particles (iterate forward n g) after in
    stays_same n (with_particles g (origin n g after)) (iterate back n k) (origin_rule n g after) refl
    ∙ ap (λ l. l.particles) (forwards-backs n k t)

pub even_backs : (n : ℕ) (g : Gas) → IsEvenTorus g.particles → IsEvenTorus (iterate back n g).particles
even_backs zero g t = t
even_backs (suc n) g t = even_backs n (back g) (even_back g t)

sides_back : (n : ℕ) (g : Gas) → HasSidesOf (iterate back n g).particles g.particles
sides_back zero g = record { wide = refl; high = refl }
sides_back (suc n) g = let s = sides_back n (back g) in record { wide = s.wide; high = s.high }

pub origin_fits : (n : ℕ) (g : Gas) (after : Cells) → IsEvenTorus after → IsEvenTorus (origin n g after) × HasSidesOf (origin n g after) after
origin_fits n g after t = grind (arith, even_backs, sides_back)
