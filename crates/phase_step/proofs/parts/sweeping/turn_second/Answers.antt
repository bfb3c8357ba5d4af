use Rattle.std.proofs.Common.{◌≡◌, ◌+◌, ◌%◌, ◌/◌, ◌∙◌, sym, ap, subst}
use Rattle.phase_step.specs.OddPhase.{IsRowThere, HasInner, HasSeam, IsBegunTurned, once_turned, twice_turned, place_in_whole}
use Rattle.phase_step.specs.declared.odd_phase.RowPlace.{RowPlace}
use Rattle.phase_step.proofs.TwoPhases.{place_in_whole_is, whole_row_there_is, setting, whole_inner_ready, whole_seam_ready, turned_twice}
use Rattle.phase_step.specs.Solid.{all_of}
use Rattle.phase_step.proofs.parts.sweeping.turn_second.Goals as goal

pub returns-clause-turned : goal.returns-clause-turned
returns-clause-turned c = λ old of ready.
    let solid = all_of c.args.known.solids.now in
    let row = c.args.row in
    let now = c.args.particles.now in
    let new = c.turn_begun.new.particles in
    let sides = ready.sides in
    let among = setting solid old now row sides c.requires.solid c.requires.row in
    let mid = once_turned solid old in
    let down : c.down.result ≡ old.height / 64 = c.down.ensures.down ∙ ap (λ h. h / 64) sides.high in
    let same : c.place_of-place.result ≡ place_in_whole old row = place_in_whole_is c.place_of-place.result old row c.place_of-place.ensures.row (c.place_of-place.ensures.below ∙ ap (λ n. (row + 1) % n) down) c.place_of-place.ensures.there in
    let there = whole_row_there_is solid now mid row of.sized (record { wide = among.sides.wide; high = among.sides.high }) (record { wide = sides.wide; high = sides.high }) among.low in
    turned_twice solid old row of.sized among.low now ready new c.turn_begun.ensures.sides
    (subst (λ (p : RowPlace). IsBegunTurned p (twice_turned solid old) now new) same
    (c.turn_begun.ensures.turned mid
    (subst (λ (p : RowPlace). IsRowThere p solid now mid) (sym same) there)
    (subst (λ (p : RowPlace). HasInner p mid.width now mid) (sym same) (whole_inner_ready solid old row of.sized among.low now ready))
    (subst (λ (p : RowPlace). HasSeam p mid.width now mid) (sym same) (whole_seam_ready solid old row of.sized among.low now ready))))
