use Rattle.std.proofs.Common.{◌≡◌, ◌+◌, ◌*◌, ◌%◌, ◌/◌, ◌<◌, true, ◌∙◌, sym, ap, subst, arith}
use Rattle.std.proofs.Math.Nat.{mod-lt}
use Rattle.gas_terms.specs.Cells.{has, extent, is_size}
use Rattle.gas_terms.specs.Gas.{streamed}
use Rattle.gas_plane.proofs.Places.{high, cell_below}
use Rattle.phase_step.specs.Parts.{start_of, row_in}
use Rattle.phase_step.specs.OddPhase.{IsRowThere, HasRow, IsEvenRowTurned, place_at}
use Rattle.phase_step.specs.declared.odd_phase.RowPlace.{RowPlace}
use Rattle.phase_step.proofs.MadeCells.{made_next}
use Rattle.phase_step.proofs.OddParts.{place_in}
use Rattle.phase_step.proofs.OwnTiles.{down_some, row_turns}
use Rattle.phase_step.proofs.Sides.{sized_as}
use Rattle.phase_step.specs.Solid.{all_of}
use Rattle.phase_step.proofs.parts.turning.turn_even_in.Goals as goal

pub returns-clause-turned : goal.returns-clause-turned
returns-clause-turned c = λ old lattice of_solid is so_far.
    let solid = all_of c.args.known.solids.now in
    let part = c.args.part in
    let row = c.args.row in
    let now = c.args.particles.now in
    let new = c.turn_even.new.particles in
    let next = streamed 0 lattice solid in
    let sides = so_far.sides in
    let own = c.requires.own in
    let low : row + part.margin < old.height / 64 = subst (λ h. row + part.margin < h / 64) sides.high c.requires.row in
    let sized : is_size (extent old) ≡ true = sized_as now old sides c.down.ensures.lattice.sized in
    let down = high (extent old) sized in
    let place = place_in part old row in
    let here = c.place_of-place.result in
    let same : here ≡ place = c.place_of-place.ensures ∙ ap (λ n. place_at part n row) (c.down.ensures.down ∙ ap (λ h. h / 64) sides.high) in
    let some = down_some part old lattice is.placed is.sized in
    let is_down : lattice.height / 64 ≡ part.down = let e = is.placed.down in omega (arith, e) in
    let row_is : IsRowThere place solid now lattice =
    record { sized = is.sized; of_solid = of_solid; wide = sides.wide ∙ is.placed.wide; low = subst (λ n. place.there < n) (sym is_down) (mod-lt (start_of part + row) some) } in
    let ready : HasRow place lattice.width now lattice =
    λ x y h k.
    let t = down.tiles in
    let b = cell_below old.height row y down (omega (arith, low)) k in
    so_far.rest x (row * 64 + y) (subst (λ w. x < w) (sym is.placed.wide) h) b (omega (arith, k))
    ∙ (is.rows.row x (row * 64 + y) h (omega (arith, own)) (omega (arith, low, t, k)) ∙ ap (has lattice x) (row_turns (start_of part) row part.down y some k)) in
    let made : IsEvenRowTurned place next now new =
    subst (λ (p : RowPlace). IsEvenRowTurned p next now new) same
    (c.turn_even.ensures.turned lattice (subst (λ (p : RowPlace). IsRowThere p solid now lattice) (sym same) row_is) (subst (λ (p : RowPlace). HasRow p lattice.width now lattice) (sym same) ready)) in
    made_next (λ x y. y / 64) row 64 part next old now new so_far c.turn_even.ensures.sides
    (λ x y h k. made.rest x y (subst (λ w. x < w) (sym sides.wide) h) (subst (λ n. y < n) (sym sides.high) k))
    (λ x y h from to e.
    let at : row * 64 + y % 64 ≡ y = omega (arith, e) in
    subst (λ n. has new x n ≡ has next x (row_in part n)) at
    (made.made x (y % 64) (subst (λ w. x < w) is.placed.wide h) (omega arith) ∙ ap (has next x) (sym (row_turns (start_of part) row part.down (y % 64) some (omega arith)))))
