use Rattle.std.proofs.Common.{◌≡◌, ◌+◌, ◌*◌, ◌≤◌, ◌∙◌, ap, ap₂, arith}
use Rattle.gas_terms.specs.Accounts.{pair_plus, taken, took_plus, TakenFits}
use Rattle.gas_terms.specs.Cells.{Cells, tile_count}
use Rattle.gas_terms.specs.Gas.{streamed}
use Rattle.block_rule.specs.Accounts.{counted_of}
use Rattle.phase_step.specs.Runs.{both_taken, particles_after}
use Rattle.phase_step.proofs.FlowSums.{counted_plus}
use Rattle.phase_step.proofs.StillRuns.{pair_after, one_after, pair_takes, one_takes, pair_few, later_few, runs_fit}
use Rattle.phase_step.specs.Solid.{all_of}
use Rattle.phase_step.proofs.parts.sweeping.turn_from_even.Goals.{After-turn_both-here, After-turn_whole-here}
use Rattle.phase_step.proofs.parts.sweeping.turn_from_even.Goals as goal

-- what the next two phases take, and a last one
pair_is : (c : After-turn_both-here) → (let s = c.args.counting.known.solids.now in c.turn_both-here.result ≡ counted_of c.args.counting.counted (both_taken (particles_after 0 (all_of s) c.args.particles.now (2 * c.loop-pair._pair)) s.walls s.obstacles))
pair_is c =
    let s = c.args.counting.known.solids.now in
    c.turn_both-here.ensures.took ∙ ap (λ (now : Cells). counted_of c.args.counting.counted (both_taken now s.walls s.obstacles)) c.loop-pair.invariant.made

one_is : (c : After-turn_whole-here) → (let s = c.args.counting.known.solids.now in c.turn_whole-here.result ≡ counted_of c.args.counting.counted (taken 0 (particles_after 0 (all_of s) c.args.particles.now (2 * c.loop-pair._pair)) s.walls s.obstacles))
one_is c =
    let s = c.args.counting.known.solids.now in
    c.turn_whole-here.ensures.took ∙ ap (λ (now : Cells). counted_of c.args.counting.counted (taken 0 now s.walls s.obstacles)) c.loop-pair.invariant.made

pair_fits : (c : After-turn_both-here) → TakenFits (pair_plus c.loop-pair.took.walls c.turn_both-here.result.walls) × TakenFits (pair_plus c.loop-pair.took.obstacles c.turn_both-here.result.obstacles)
pair_fits c =
    let s = c.args.counting.known.solids.now in
    let old = c.args.particles.now in
    let most : 16384 * tile_count old + 16384 * tile_count old ≤ 16384 * tile_count old + 16384 * tile_count old = omega arith in
    let short = c.ranges.n.fits in
    let less = c.loop-pair-test.true in
    runs_fit _ (2 * c.loop-pair._pair) s.walls s.obstacles old c.args.counting.counted c.loop-pair.took c.turn_both-here.result _ c.shows_lattice.ensures (omega (arith, short, less)) most c.loop-pair.invariant.took (pair_is c) (pair_few s.walls s.obstacles old (2 * c.loop-pair._pair) c.shows_lattice.ensures.sized)

one_fits : (c : After-turn_whole-here) → TakenFits (pair_plus c.loop-pair.took.walls c.turn_whole-here.result.walls) × TakenFits (pair_plus c.loop-pair.took.obstacles c.turn_whole-here.result.obstacles)
one_fits c =
    let s = c.args.counting.known.solids.now in
    let old = c.args.particles.now in
    let most : 16384 * tile_count old ≤ 16384 * tile_count old + 16384 * tile_count old = omega arith in
    let short = c.ranges.n.fits in
    let end = c.loop-pair.auto._pair-end in
    runs_fit _ (2 * c.loop-pair._pair) s.walls s.obstacles old c.args.counting.counted c.loop-pair.took c.turn_whole-here.result _ c.shows_lattice.ensures (omega (arith, short, end)) most c.loop-pair.invariant.took (one_is c) (later_few 0 0 old s.walls s.obstacles (2 * c.loop-pair._pair) (omega arith) c.shows_lattice.ensures.sized)

pub plus-took-requires-clause-walls : goal.plus-took-requires-clause-walls
plus-took-requires-clause-walls c = (pair_fits (goal.at.plus-took-requires-clause-walls c).After-turn_both-here).0

pub plus-took-requires-clause-obstacles : goal.plus-took-requires-clause-obstacles
plus-took-requires-clause-obstacles c = (pair_fits (goal.at.plus-took-requires-clause-obstacles c).After-turn_both-here).1

pub plus-took-requires-then-n-eq1-clause-walls : goal.plus-took-requires-then-n-eq1-clause-walls
plus-took-requires-then-n-eq1-clause-walls c = (one_fits (goal.at.plus-took-requires-then-n-eq1-clause-walls c).After-turn_whole-here).0

pub plus-took-requires-then-n-eq1-clause-obstacles : goal.plus-took-requires-then-n-eq1-clause-obstacles
plus-took-requires-then-n-eq1-clause-obstacles c = (one_fits (goal.at.plus-took-requires-then-n-eq1-clause-obstacles c).After-turn_whole-here).1

pub loop-pair-preserved : goal.loop-pair-preserved
loop-pair-preserved c =
    let counting = c.args.counting in
    let s = counting.known.solids.now in
    let solid = all_of s in
    let l = c.loop-pair in
    record {
      made = c.turn_both-here.ensures.particles ∙ (ap (λ (now : Cells). streamed 1 (streamed 0 now solid) solid) l.invariant.made ∙ pair_after solid c.args.particles.now l._pair);
      sides = record { wide = ap (λ (m : Cells). m.width) c.turn_both-here.ensures.particles ∙ l.invariant.sides.wide; high = ap (λ (m : Cells). m.height) c.turn_both-here.ensures.particles ∙ l.invariant.sides.high };
      took = c.plus-took.ensures
          ∙ (ap₂ took_plus l.invariant.took (pair_is (goal.at.loop-pair-preserved c).After-turn_both-here)
          ∙ (counted_plus counting.counted _ _ ∙ ap (counted_of counting.counted) (pair_takes s.walls s.obstacles c.args.particles.now l._pair)));
    }

pub returns-then-n-eq1-clause-particles : goal.returns-then-n-eq1-clause-particles
returns-then-n-eq1-clause-particles c =
    let solid = all_of c.args.counting.known.solids.now in
    let l = c.loop-pair in
    c.turn_whole-here.ensures.particles ∙ (ap (λ (now : Cells). streamed 0 now solid) l.invariant.made ∙ one_after solid c.args.particles.now l._pair c.args.n c.if-n-eq1.true (omega (arith, c.loop-pair-test.false, l.auto._pair-end)))

pub returns-then-n-eq1-clause-took : goal.returns-then-n-eq1-clause-took
returns-then-n-eq1-clause-took c =
    let counting = c.args.counting in
    let s = counting.known.solids.now in
    let l = c.loop-pair in
    c.plus-took-then-n-eq1.ensures
    ∙ (ap₂ took_plus l.invariant.took (one_is (goal.at.returns-then-n-eq1-clause-took c).After-turn_whole-here)
    ∙ (counted_plus counting.counted _ _ ∙ ap (counted_of counting.counted) (one_takes s.walls s.obstacles c.args.particles.now l._pair c.args.n c.if-n-eq1.true (omega (arith, c.loop-pair-test.false, l.auto._pair-end)))))
