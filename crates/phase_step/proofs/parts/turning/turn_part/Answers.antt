use Rattle.std.proofs.Common.{◌≡◌, ◌-◌, sym, subst, arith}
use Rattle.phase_step.specs.Parts.{IsReady, IsTurned}
use Rattle.phase_step.specs.Solid.{all_of}
use Rattle.phase_step.proofs.parts.turning.turn_part.Goals as goal

pub turn_even_rows-requires : goal.turn_even_rows-requires
turn_even_rows-requires c = record { ready = subst (λ p. IsReady c.args.part (all_of c.args.known.solids.now) c.args.particles.now (64 - p)) c.if-parity-eq0.true c.requires.ready }

pub returns-then-parity-eq0-clause-phase : goal.returns-then-parity-eq0-clause-phase
returns-then-parity-eq0-clause-phase c = subst (λ p. IsTurned c.args.part p (all_of c.args.known.solids.now) c.args.particles.now c.turn_even_rows.new.particles) (sym c.if-parity-eq0.true) c.turn_even_rows.ensures.phase

pub returns-else-parity-eq0-clause-phase : goal.returns-else-parity-eq0-clause-phase
returns-else-parity-eq0-clause-phase c =
    let small = c.requires.parity in
    let odd = c.if-parity-eq0.false in
    let e : 1 ≡ c.args.parity = omega (arith, small, odd) in
    subst (λ p. IsTurned c.args.part p (all_of c.args.known.solids.now) c.args.particles.now c.turn_odd_rows.new.particles) e c.turn_odd_rows.ensures.phase
