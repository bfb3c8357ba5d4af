-- A map of cells that commutes with one step is a symmetry.
use Rattle.std.proofs.Common.{◌≡◌, ℤ, pos, ◌+ℤ◌, ◌-ℤ◌, sym, ap, ◌∙◌}
use Rattle.gas_terms.specs.Velocity.{parity}
use Rattle.gas_terms.specs.Cells.{Cells, joined, HasEvenSides, HasSidesOf}
use Rattle.gas_terms.specs.Gas.{Gas, streamed, unstreamed, solid, forward, back}
use Rattle.gas_terms.specs.Symmetry.{IsOnOneTorus, IsSymmetry}
use Rattle.gas_terms.proofs.Iterate.{iterate_carried}
use Rattle.gas_terms.proofs.Steps.{gas_at, same_gas, unstreamed-streamed}
use Rattle.gas_terms.proofs.Torus.{obstacles_sides, solid_sides, torus_forward, torus_back}

-- A map of cells commutes with one step, under a change of the tick.
pub record Commutes (f : Cells → Cells) (clock : ℤ → ℤ) : Type 0 where
  pub ticks : (t : ℤ) → clock (t +ℤ pos 1) ≡ clock t +ℤ pos 1
  pub ticks_back : (t : ℤ) → clock (t -ℤ pos 1) ≡ clock t -ℤ pos 1
  pub even : (cells : Cells) → HasEvenSides cells.width cells.height → HasEvenSides (f cells).width (f cells).height
  pub joins : (some others : Cells) → HasSidesOf others some → joined (f some) (f others) ≡ f (joined some others)
  pub streams : (t : ℤ) (particles walls : Cells) → HasEvenSides particles.width particles.height → HasSidesOf walls particles
      → streamed (parity (clock t)) (f particles) (f walls) ≡ f (streamed (parity t) particles walls)

-- a gas with mapped cells and another tick
abbrev pub carried : (Cells → Cells) → (ℤ → ℤ) → Gas → Gas
carried f clock g = record g { tick = clock g.tick; particles = f g.particles; walls = f g.walls; obstacles = f g.obstacles }

-- A phase of the mapped gas is the mapped phase.
phase_carried : (f : Cells → Cells) (clock : ℤ → ℤ) (t : ℤ) (g : Gas) → Commutes f clock → IsOnOneTorus g
    → streamed (parity (clock t)) (f g.particles) (joined (f g.walls) (f g.obstacles)) ≡ f (streamed (parity t) g.particles (solid g))
phase_carried f clock t g c i =
    ap (streamed (parity (clock t)) (f g.particles)) (c.joins g.walls g.obstacles (obstacles_sides g i))
    ∙ c.streams t g.particles (solid g) i.sides (solid_sides g i)

carried_forward : (f : Cells → Cells) (clock : ℤ → ℤ) → Commutes f clock → (g : Gas) → IsOnOneTorus g
    → carried f clock (forward g) ≡ forward (carried f clock g)
unfolding gas_at
carried_forward f clock c g i =
    same_gas (clock (g.tick +ℤ pos 1)) (clock g.tick +ℤ pos 1) (f (streamed (parity g.tick) g.particles (solid g)))
    (streamed (parity (clock g.tick)) (f g.particles) (joined (f g.walls) (f g.obstacles))) (f g.walls) (f g.obstacles) g.drains g.sources
    (c.ticks g.tick) (sym (phase_carried f clock g.tick g c i))

carried_back : (f : Cells → Cells) (clock : ℤ → ℤ) → Commutes f clock → (g : Gas) → IsOnOneTorus g
    → carried f clock (back g) ≡ back (carried f clock g)
unfolding gas_at
carried_back f clock c g i =
    let t = g.tick -ℤ pos 1 in
    let shells = joined (f g.walls) (f g.obstacles) in
    same_gas (clock t) (clock g.tick -ℤ pos 1) (f (unstreamed (parity t) g.particles (solid g)))
    (unstreamed (parity (clock g.tick -ℤ pos 1)) (f g.particles) shells) (f g.walls) (f g.obstacles) g.drains g.sources
    (c.ticks_back g.tick)
    (ap f (unstreamed-streamed (parity t) g.particles (solid g) i.sides)
    ∙ sym (phase_carried f clock t g c i)
    ∙ sym (unstreamed-streamed (parity (clock t)) (f g.particles) shells (c.even g.particles i.sides))
    ∙ ap (λ u. unstreamed (parity u) (f g.particles) shells) (c.ticks_back g.tick))

pub commuting_symmetry : (f : Cells → Cells) (clock : ℤ → ℤ) → Commutes f clock → IsSymmetry (carried f clock)
commuting_symmetry f clock c = record {
  forth = iterate_carried forward forward (carried f clock) IsOnOneTorus torus_forward (carried_forward f clock c);
  back = iterate_carried back back (carried f clock) IsOnOneTorus torus_back (carried_back f clock c);
}
