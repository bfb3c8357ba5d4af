-- A run back is a run forward of the reversed gas.
use Rattle.std.proofs.Common.{◌≡◌, ℕ, pos, ◌+ℤ◌, ◌-ℤ◌, [], sym, ap, ◌∙◌, arith}
use Rattle.std.proofs.lemmas.Int.{ints}
use Rattle.std.specs.Fn.{iterate}
use Rattle.gas_terms.specs.Velocity.{parity}
use Rattle.gas_terms.specs.Cells.{HasEvenSides, IsEvenTorus}
use Rattle.gas_terms.specs.Gas.{Gas, streamed, unstreamed, solid, forward, back}
use Rattle.gas_terms.specs.Symmetry.{reversed}
use Rattle.gas_terms.proofs.Iterate.{iterate_keeps, iterate_carried}
use Rattle.gas_terms.proofs.Parity.{parity-small, parity-last, parity_reversed}
use Rattle.gas_terms.proofs.Steps.{unstreamed-streamed, gas_at, same_gas, backs-forwards}

pub back_reversed : (g : Gas) → HasEvenSides g.particles.width g.particles.height → reversed (back g) ≡ forward (reversed g)
unfolding gas_at
back_reversed g e =
    let t = g.tick in
    let same : parity (t -ℤ pos 1) ≡ parity (pos 1 -ℤ t) =
    omega (arith, parity-last t, parity-small (t -ℤ pos 1), parity_reversed t) in
    same_gas (pos 1 -ℤ (t -ℤ pos 1)) ((pos 1 -ℤ t) +ℤ pos 1) (unstreamed (parity (t -ℤ pos 1)) g.particles (solid g))
    (streamed (parity (pos 1 -ℤ t)) g.particles (solid g)) g.walls g.obstacles [] []
    (omega (arith, ints))
    (unstreamed-streamed (parity (t -ℤ pos 1)) g.particles (solid g) e ∙ ap (λ p. streamed p g.particles (solid g)) same)

pub backs_reversed : (n : ℕ) (g : Gas) → HasEvenSides g.particles.width g.particles.height
    → reversed (iterate back n g) ≡ iterate forward n (reversed g)
backs_reversed =
    iterate_carried back forward reversed (λ g. HasEvenSides g.particles.width g.particles.height) (λ g e. e) back_reversed

-- A run forward is a run back of the reversed gas.
pub forward_reversed : (g : Gas) → HasEvenSides g.particles.width g.particles.height → reversed (forward g) ≡ back (reversed g)
unfolding gas_at
forward_reversed g e =
    let t = g.tick in
    let u = (pos 1 -ℤ t) -ℤ pos 1 in
    let same : parity t ≡ parity u =
    omega (arith, parity-last (pos 1 -ℤ t), parity-small t, parity-small u, parity_reversed t) in
    same_gas (pos 1 -ℤ (t +ℤ pos 1)) u (streamed (parity t) g.particles (solid g)) (unstreamed (parity u) g.particles (solid g))
    g.walls g.obstacles [] []
    (omega (arith, ints))
    (ap (λ p. streamed p g.particles (solid g)) same ∙ sym (unstreamed-streamed (parity u) g.particles (solid g) e))

pub forwards_reversed : (n : ℕ) (g : Gas) → HasEvenSides g.particles.width g.particles.height
    → reversed (iterate forward n g) ≡ iterate back n (reversed g)
forwards_reversed =
    iterate_carried forward back reversed (λ g. HasEvenSides g.particles.width g.particles.height) (λ g e. e) forward_reversed

-- A gas that runs, is reversed and runs as long again is its start, reversed.
pub run_returns : (n : ℕ) (g : Gas) → IsEvenTorus g.particles → iterate forward n (reversed (iterate forward n g)) ≡ reversed g
run_returns n g t =
    sym (backs_reversed n (iterate forward n g) (iterate_keeps forward (λ k. HasEvenSides k.particles.width k.particles.height) (λ k e. e) n g t.sides)) ∙ ap reversed (backs-forwards n g t)
