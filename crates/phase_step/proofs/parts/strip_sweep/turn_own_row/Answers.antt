use Rattle.std.proofs.Common.{◌≡◌, ◌+◌, ◌/◌, ◌<◌, true, ◌∙◌, sym, ap, subst, arith}
use Rattle.gas_terms.specs.Cells.{HasSidesOf, extent, is_size}
use Rattle.gas_terms.specs.Gas.{streamed}
use Rattle.phase_step.specs.OddPhase.{IsRowThere, HasInner, HasSeam, HasRow, IsBegunTurned, IsEvenRowTurned, place_at}
use Rattle.phase_step.specs.declared.odd_phase.RowPlace.{RowPlace}
use Rattle.phase_step.proofs.OddParts.{place_in, row_there_is}
use Rattle.phase_step.proofs.Sides.{sized_as}
use Rattle.phase_step.proofs.StripSweeps.{inner_on, seam_on, row_ready, row_on}
use Rattle.phase_step.specs.Solid.{all_of}
use Rattle.phase_step.proofs.parts.strip_sweep.turn_own_row.Goals as goal

pub returns-clause-turned : goal.returns-clause-turned
returns-clause-turned c = λ old lattice of_solid is so_far.
    let solid = all_of c.args.known.solids.now in
    let part = c.args.part in
    let row = c.args.row in
    let now = c.args.particles.now in
    let begun = c.turn_begun.new.particles in
    let mid = streamed 1 lattice solid in
    let next = streamed 0 mid solid in
    let strip = c.requires.part.2 in
    let own = c.requires.row.0 in
    let less = c.requires.row.1 in
    let low : row + part.margin < old.height / 64 = subst (λ h. row + part.margin < h / 64) so_far.sides.high (omega (arith, less, strip)) in
    let sized : is_size (extent old) ≡ true = sized_as now old so_far.sides c.down.ensures.lattice.sized in
    let place = place_in part old row in
    let down : c.down.result ≡ old.height / 64 = c.down.ensures.down ∙ ap (λ h. h / 64) so_far.sides.high in
    let same : c.place_of-place.result ≡ place = c.place_of-place.ensures ∙ ap (λ n. place_at part n row) down in
    let there = row_there_is part solid old row sized low lattice is of_solid now so_far.sides in
    let made : IsBegunTurned place mid now begun =
    subst (λ (p : RowPlace). IsBegunTurned p mid now begun) same
    (c.turn_begun.ensures.turned lattice
    (subst (λ (p : RowPlace). IsRowThere p solid now lattice) (sym same) there)
    (subst (λ (p : RowPlace). HasInner p lattice.width now lattice) (sym same) (inner_on part solid old row sized low strip lattice is of_solid now so_far.rest own))
    (subst (λ (p : RowPlace). HasSeam p lattice.width now lattice) (sym same) (seam_on part solid old row sized low strip lattice is of_solid now so_far.rest))) in
    let sides = c.turn_begun.ensures.sides in
    let old_begun : HasSidesOf begun old = record { wide = sides.wide ∙ so_far.sides.wide; high = sides.high ∙ so_far.sides.high } in
    let again : IsRowThere place solid begun mid = record { sized = is.sized; of_solid = record { wide = of_solid.wide; high = of_solid.high }; wide = old_begun.wide ∙ is.placed.wide; low = there.low } in
    let even : IsEvenRowTurned place next begun c.turn_even.new.particles =
    subst (λ (p : RowPlace). IsEvenRowTurned p next begun c.turn_even.new.particles) same
    (c.turn_even.ensures.turned mid
    (subst (λ (p : RowPlace). IsRowThere p solid begun mid) (sym same) again)
    (subst (λ (p : RowPlace). HasRow p mid.width begun mid) (sym same) (row_ready part solid old row sized low strip lattice is of_solid now begun so_far sides made))) in
    row_on part solid old row sized low strip lattice is of_solid now begun so_far sides made c.turn_even.new.particles c.turn_even.ensures.sides even
