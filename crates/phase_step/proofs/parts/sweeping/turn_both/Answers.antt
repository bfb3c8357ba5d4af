use Rattle.std.proofs.Common.{◌≡◌, ◌+◌, ◌-◌, ◌/◌, ◌∙◌, refl, sym, ap, ap₂, subst, arith, add-one}
use Rattle.gas_terms.specs.Accounts.{pair_plus, took_plus, TakenFits}
use Rattle.gas_terms.proofs.Steps.{full_streamed}
use Rattle.block_rule.specs.Accounts.{counted_of}
use Rattle.phase_step.specs.Amounts.{sum_first}
use Rattle.phase_step.specs.OddPhase.{once_turned, twice_turned, TurnsSecond}
use Rattle.phase_step.specs.Runs.{row_takes, takings}
use Rattle.phase_step.proofs.FlowSums.{counted_plus, takings_add}
use Rattle.phase_step.proofs.RowCounts.{rows_take_all, next_fits}
use Rattle.phase_step.proofs.TwoPhases.{first_turned, none_next, all_turned_twice}
use Rattle.phase_step.specs.Solid.{all_of}
use Rattle.phase_step.proofs.parts.sweeping.turn_both.Goals.{After-turn_twice-here}
use Rattle.phase_step.proofs.parts.sweeping.turn_both.Goals as goal

pub loop-row-init : goal.loop-row-init
loop-row-init c =
    let counting = c.args.counting in
    let s = counting.known.solids.now in
    let old = c.args.particles.now in
    let first = c.turn_first-took in
    let of = c.down-last.ensures.lattice in
    let row = first.ensures.turned old of (record { wide = refl; high = refl }) (λ x y h k. refl) in
    record {
      sides = first.ensures.sides;
      turned = first_turned (once_turned (all_of s) old) (twice_turned (all_of s) old) old first.new.particles first.ensures.sides (record { wide = refl; high = refl }) row;
      took = first.ensures.took old of (record { wide = refl; high = refl }) (λ x y h k. refl) ∙ ap (counted_of counting.counted) (sym (takings_add.left (row_takes old s.walls s.obstacles 0)));
    }

fits : (c : After-turn_twice-here) → TakenFits (pair_plus c.loop-row.took.walls c.turn_twice-here.result.walls) × TakenFits (pair_plus c.loop-row.took.obstacles c.turn_twice-here.result.obstacles)
fits c =
    let s = c.args.counting.known.solids.now in
    let old = c.args.particles.now in
    let of = c.down-last.ensures.lattice in
    let less = c.loop-row-test.true in
    let down = c.down-last.ensures.down in
    next_fits old s.walls s.obstacles of c.args.counting.counted (c.loop-row.row + 1) (c.loop-row.row + 1) c.loop-row.took c.turn_twice-here.result (omega (arith, less, down)) c.loop-row.invariant.took (c.turn_twice-here.ensures.took old of c.loop-row.invariant.turned)

pub plus-took-requires-clause-walls : goal.plus-took-requires-clause-walls
plus-took-requires-clause-walls c = (fits (goal.at.plus-took-requires-clause-walls c).After-turn_twice-here).0

pub plus-took-requires-clause-obstacles : goal.plus-took-requires-clause-obstacles
plus-took-requires-clause-obstacles c = (fits (goal.at.plus-took-requires-clause-obstacles c).After-turn_twice-here).1

pub loop-row-preserved : goal.loop-row-preserved
loop-row-preserved c =
    let counting = c.args.counting in
    let s = counting.known.solids.now in
    let old = c.args.particles.now in
    let of = c.down-last.ensures.lattice in
    let sides = c.turn_twice-here.ensures.sides in
    let so_far = c.loop-row.invariant in
    record {
      sides = record { wide = sides.wide ∙ so_far.sides.wide; high = sides.high ∙ so_far.sides.high };
      turned = c.turn_twice-here.ensures.turned old of so_far.turned;
      took = c.plus-took.ensures
          ∙ (ap₂ took_plus so_far.took (c.turn_twice-here.ensures.took old of so_far.turned)
          ∙ (counted_plus counting.counted _ _ ∙ ap (λ n. counted_of counting.counted (sum_first takings (row_takes old s.walls s.obstacles) n)) (sym (add-one (c.loop-row.row + 1)))));
    }

pub returns-clause-particles : goal.returns-clause-particles
returns-clause-particles c =
    let solid = all_of c.args.counting.known.solids.now in
    let old = c.args.particles.now in
    let mid = once_turned solid old in
    let next = twice_turned solid old in
    let of = c.down-last.ensures.lattice in
    let row = c.loop-row.row in
    let down = c.down-last.ensures.down in
    let some = c.down-last.ensures.positive in
    let last : c.down-last.result - 1 ≡ row = omega (arith, c.loop-row-test.false, c.loop-row.auto.row-end) in
    let end : row + 1 ≡ old.height / 64 = omega (arith, last, down, some) in
    let second = subst (λ r. TurnsSecond r solid c.loop-row.particles c.turn_second.new.particles) last c.turn_second.ensures.turned in
    all_turned_twice (row + 1) mid next old c.turn_second.new.particles of.sized end (record { wide = refl; high = refl }) c.shows_lattice.ensures.full (full_streamed 1 mid solid)
    (second old of (none_next solid old row of.sized c.loop-row.particles c.loop-row.invariant.turned end))

pub returns-clause-took : goal.returns-clause-took
returns-clause-took c =
    let s = c.args.counting.known.solids.now in
    let old = c.args.particles.now in
    let down = c.down-last.ensures.down in
    let some = c.down-last.ensures.positive in
    let end : c.loop-row.row + 1 ≡ old.height / 64 = omega (arith, c.loop-row-test.false, c.loop-row.auto.row-end, down, some) in
    c.loop-row.invariant.took
    ∙ ap (counted_of c.args.counting.counted) (ap (sum_first takings (row_takes old s.walls s.obstacles)) end ∙ rows_take_all old s.walls s.obstacles c.down-last.ensures.lattice)
