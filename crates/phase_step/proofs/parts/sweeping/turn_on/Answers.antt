use Rattle.std.proofs.Common.{◌≡◌, suc, ◌-◌, ◌∙◌, ap, ap₂, arith}
use Rattle.gas_terms.specs.Accounts.{pair_plus, took_plus, TakenFits}
use Rattle.gas_terms.specs.Cells.{Cells}
use Rattle.gas_terms.specs.Gas.{streamed}
use Rattle.block_rule.specs.Accounts.{counted_of}
use Rattle.phase_step.specs.Runs.{particles_after, run_takes}
use Rattle.phase_step.proofs.FlowSums.{counted_plus}
use Rattle.phase_step.proofs.StillRuns.{first_fits, odd_first, odd_takes}
use Rattle.phase_step.specs.Solid.{all_of}
use Rattle.phase_step.proofs.parts.sweeping.turn_on.Goals.{After-turn_from_even-rest}
use Rattle.phase_step.proofs.parts.sweeping.turn_on.Goals as goal

odd : (c : After-turn_from_even-rest) → 1 ≡ c.args.parity
odd c = let small = c.requires.parity in let not_even = c.if-parity-eq0.false in omega (arith, small, not_even)

all : (c : After-turn_from_even-rest) → suc (c.args.n - 1) ≡ c.args.n
all c = let some = c.if-n-eq0.false in omega (arith, some)

rest_is : (c : After-turn_from_even-rest) → (let s = c.args.counting.known.solids.now in c.turn_from_even-rest.result ≡ counted_of c.args.counting.counted (run_takes 0 s.walls s.obstacles (streamed 1 c.args.particles.now (all_of s)) (c.args.n - 1)))
rest_is c =
    let s = c.args.counting.known.solids.now in
    c.turn_from_even-rest.ensures.took ∙ ap (λ (now : Cells). counted_of c.args.counting.counted (run_takes 0 s.walls s.obstacles now (c.args.n - 1))) c.turn_whole-first.ensures.particles

fits : (c : After-turn_from_even-rest) → TakenFits (pair_plus c.turn_whole-first.result.walls c.turn_from_even-rest.result.walls) × TakenFits (pair_plus c.turn_whole-first.result.obstacles c.turn_from_even-rest.result.obstacles)
fits c =
    let s = c.args.counting.known.solids.now in
    let short = c.ranges.n.fits in
    first_fits (c.args.n - 1) s.walls s.obstacles c.args.particles.now c.args.counting.counted c.turn_whole-first.result c.turn_from_even-rest.result c.shows_lattice.ensures (omega (arith, short)) c.turn_whole-first.ensures.took (rest_is c)

pub plus-requires-clause-walls : goal.plus-requires-clause-walls
plus-requires-clause-walls c = (fits (goal.at.plus-requires-clause-walls c).After-turn_from_even-rest).0

pub plus-requires-clause-obstacles : goal.plus-requires-clause-obstacles
plus-requires-clause-obstacles c = (fits (goal.at.plus-requires-clause-obstacles c).After-turn_from_even-rest).1

pub returns-clause-particles : goal.returns-clause-particles
returns-clause-particles c =
    let solid = all_of c.args.counting.known.solids.now in
    let after = (goal.at.returns-clause-particles c).After-turn_from_even-rest in
    c.turn_from_even-rest.ensures.particles
    ∙ (ap (λ (now : Cells). particles_after 0 solid now (c.args.n - 1)) c.turn_whole-first.ensures.particles
    ∙ (odd_first solid c.args.particles.now (c.args.n - 1) ∙ ap₂ (λ p n. particles_after p solid c.args.particles.now n) (odd after) (all after)))

pub returns-clause-took : goal.returns-clause-took
returns-clause-took c =
    let counting = c.args.counting in
    let s = counting.known.solids.now in
    let old = c.args.particles.now in
    let after = (goal.at.returns-clause-took c).After-turn_from_even-rest in
    c.plus.ensures
    ∙ (ap₂ took_plus c.turn_whole-first.ensures.took (rest_is after)
    ∙ (counted_plus counting.counted _ _
    ∙ ap (counted_of counting.counted) (odd_takes s.walls s.obstacles old (c.args.n - 1) ∙ ap₂ (λ p n. run_takes p s.walls s.obstacles old n) (odd after) (all after))))
