use Rattle.std.proofs.Common.{◌≡◌, ◌+◌, ◌%◌, ◌/◌, ◌<◌, ◌∙◌, refl, sym, ap, ap₂, subst}
use Rattle.gas_terms.specs.Cells.{Cells, HasSidesOf}
use Rattle.gas_terms.specs.Accounts.{pair_plus, took_plus, TakenFits}
use Rattle.gas_terms.proofs.Steps.{full_streamed}
use Rattle.block_rule.specs.Accounts.{counted_of}
use Rattle.gas_plane.specs.Planes.{IsLattice}
use Rattle.phase_step.specs.OddPhase.{IsRowThere, HasRow, IsEvenRowTurned, IsRowOf, once_turned, place_in_whole}
use Rattle.phase_step.specs.Runs.{row_take}
use Rattle.phase_step.specs.Solid.{all_of}
use Rattle.phase_step.specs.declared.odd_phase.RowPlace.{RowPlace}
use Rattle.phase_step.proofs.FlowSums.{counted_plus}
use Rattle.phase_step.proofs.RowCounts.{rows_fit}
use Rattle.phase_step.proofs.RowRuns.{sides_on}
use Rattle.phase_step.proofs.TwoPhases.{place_in_whole_is, whole_row_there_is}
use Rattle.phase_step.proofs.parts.sweeping.turn_first.Goals.{After-count_row-odd}
use Rattle.phase_step.proofs.parts.sweeping.turn_first.Goals as goal

turned : (c : After-count_row-odd) (old : Cells) → IsLattice old → HasSidesOf c.args.particles.now old → IsRowOf c.args.row c.args.particles.now old
    → IsEvenRowTurned (place_in_whole old c.args.row) (once_turned (all_of c.args.counting.known.solids.now) old) c.args.particles.now c.turn_even.new.particles
turned c old is sides row_of =
    let solid = all_of c.args.counting.known.solids.now in
    let row = c.args.row in
    let now = c.args.particles.now in
    let place = c.place_of-place in
    let same : place.result ≡ place_in_whole old row = place_in_whole_is place.result old row place.ensures.row (place.ensures.below ∙ ap (λ n. (row + 1) % n) (c.down.ensures.down ∙ ap (λ h. h / 64) sides.high)) place.ensures.there in
    let low : row < old.height / 64 = subst (λ h. row < h / 64) sides.high c.requires.row in
    subst (λ (p : RowPlace). IsEvenRowTurned p (once_turned solid old) now c.turn_even.new.particles) same
    (c.turn_even.ensures.turned old
    (subst (λ (p : RowPlace). IsRowThere p solid now old) (sym same) (whole_row_there_is solid now old row is.sized (sides_on _ _ _ c.requires.solid sides) sides low))
    (subst (λ (p : RowPlace). HasRow p old.width now old) (sym same) row_of))

-- what is counted before it turns, and after
counted : (c : After-count_row-odd) (old : Cells) → IsLattice old → HasSidesOf c.args.particles.now old → IsRowOf c.args.row c.args.particles.now old
    → (let s = c.args.counting.known.solids.now in let kept = c.args.counting.counted in
    (c.count_row-even.result ≡ counted_of kept (row_take 0 old s.walls s.obstacles c.args.row)) × (c.count_row-odd.result ≡ counted_of kept (row_take 1 (once_turned (all_of s) old) s.walls s.obstacles c.args.row)))
counted c old is sides row_of =
    let solid = all_of c.args.counting.known.solids.now in (
      c.count_row-even.ensures old is sides row_of,
      c.count_row-odd.ensures (once_turned solid old) (record { sized = is.sized; full = full_streamed 0 old solid }) (let made = sides_on _ _ _ c.turn_even.ensures.sides sides in record { wide = made.wide; high = made.high }) (turned c old is sides row_of).made,
    )

fits : (c : After-count_row-odd) → TakenFits (pair_plus c.count_row-even.result.walls c.count_row-odd.result.walls) × TakenFits (pair_plus c.count_row-even.result.obstacles c.count_row-odd.result.obstacles)
fits c =
    let s = c.args.counting.known.solids.now in
    let old = c.args.particles.now in
    let is = c.down.ensures.lattice in
    let takes = counted c old is (record { wide = refl; high = refl }) (λ x y h k. refl) in
    rows_fit old s.walls s.obstacles is c.args.counting.counted c.args.row c.count_row-even.result c.count_row-odd.result takes.0 takes.1

pub plus-requires-clause-walls : goal.plus-requires-clause-walls
plus-requires-clause-walls c = (fits (goal.at.plus-requires-clause-walls c).After-count_row-odd).0

pub plus-requires-clause-obstacles : goal.plus-requires-clause-obstacles
plus-requires-clause-obstacles c = (fits (goal.at.plus-requires-clause-obstacles c).After-count_row-odd).1

pub returns-clause-turned : goal.returns-clause-turned
returns-clause-turned c = turned (goal.at.returns-clause-turned c).After-count_row-odd

pub returns-clause-took : goal.returns-clause-took
returns-clause-took c = λ old is sides row_of.
    let takes = counted (goal.at.returns-clause-took c).After-count_row-odd old is sides row_of in
    c.plus.ensures ∙ (ap₂ took_plus takes.0 takes.1 ∙ counted_plus c.args.counting.counted _ _)
