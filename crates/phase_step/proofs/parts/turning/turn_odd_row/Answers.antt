use Rattle.std.proofs.Common.{◌≡◌, ◌+◌, ◌/◌, ◌<◌, ◌≤◌, true, ◌∙◌, sym, ap, subst, arith}
use Rattle.gas_terms.specs.Cells.{extent, is_size}
use Rattle.gas_terms.specs.Gas.{streamed}
use Rattle.phase_step.specs.OddPhase.{IsRowThere, HasInner, HasSeam, IsBegunTurned, IsSeamRowTurned, place_at}
use Rattle.phase_step.specs.declared.odd_phase.RowPlace.{RowPlace}
use Rattle.phase_step.proofs.Sides.{sized_as}
use Rattle.phase_step.proofs.OddParts.{place_in, row_there_is, inner_ready, seam_ready, margin_done, own_done, odd_row_next}
use Rattle.phase_step.specs.Solid.{all_of}
use Rattle.phase_step.proofs.parts.turning.turn_odd_row.Goals as goal

pub returns-then-row-part-clause-turned : goal.returns-then-row-part-clause-turned
returns-then-row-part-clause-turned c = λ old lattice of_solid is so_far.
    let solid = all_of c.args.known.solids.now in
    let part = c.args.part in
    let row = c.args.row in
    let now = c.args.particles.now in
    let new = c.turn_seam.new.particles in
    let next = streamed 1 lattice solid in
    let low : row + part.margin < old.height / 64 = subst (λ h. row + part.margin < h / 64) so_far.sides.high c.requires.row in
    let sized : is_size (extent old) ≡ true = sized_as now old so_far.sides c.down.ensures.lattice.sized in
    let down : c.down.result ≡ old.height / 64 = c.down.ensures.down ∙ ap (λ h. h / 64) so_far.sides.high in
    let same : c.place_of-place.result ≡ place_in part old row = c.place_of-place.ensures ∙ ap (λ n. place_at part n row) down in
    let seam = c.turn_seam.ensures.turned lattice
    (subst (λ (p : RowPlace). IsRowThere p solid now lattice) (sym same) (row_there_is part solid old row sized low lattice is of_solid now so_far.sides))
    (subst (λ (p : RowPlace). HasSeam p lattice.width now lattice) (sym same) (seam_ready part solid old row sized low lattice is of_solid now so_far)) in
    odd_row_next part solid old row sized low lattice is of_solid now new so_far
    (margin_done part (place_in part old row) next now new c.if-row-part.true c.turn_seam.ensures.sides (subst (λ (p : RowPlace). IsSeamRowTurned p next now new) same seam))

pub returns-else-row-part-clause-turned : goal.returns-else-row-part-clause-turned
returns-else-row-part-clause-turned c = λ old lattice of_solid is so_far.
    let solid = all_of c.args.known.solids.now in
    let part = c.args.part in
    let row = c.args.row in
    let now = c.args.particles.now in
    let new = c.turn_begun.new.particles in
    let next = streamed 1 lattice solid in
    let low : row + part.margin < old.height / 64 = subst (λ h. row + part.margin < h / 64) so_far.sides.high c.requires.row in
    let sized : is_size (extent old) ≡ true = sized_as now old so_far.sides c.down.ensures.lattice.sized in
    let down : c.down.result ≡ old.height / 64 = c.down.ensures.down ∙ ap (λ h. h / 64) so_far.sides.high in
    let same : c.place_of-place.result ≡ place_in part old row = c.place_of-place.ensures ∙ ap (λ n. place_at part n row) down in
    let own : part.margin ≤ row = omega (arith, c.if-row-part.false) in
    let made = c.turn_begun.ensures.turned lattice
    (subst (λ (p : RowPlace). IsRowThere p solid now lattice) (sym same) (row_there_is part solid old row sized low lattice is of_solid now so_far.sides))
    (subst (λ (p : RowPlace). HasInner p lattice.width now lattice) (sym same) (inner_ready part solid old row sized low lattice is of_solid now so_far own))
    (subst (λ (p : RowPlace). HasSeam p lattice.width now lattice) (sym same) (seam_ready part solid old row sized low lattice is of_solid now so_far)) in
    odd_row_next part solid old row sized low lattice is of_solid now new so_far
    (own_done part (place_in part old row) next now new own c.turn_begun.ensures.sides (subst (λ (p : RowPlace). IsBegunTurned p next now new) same made))
