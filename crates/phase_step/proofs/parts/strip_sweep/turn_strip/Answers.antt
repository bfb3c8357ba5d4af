use Rattle.std.proofs.Common.{◌≡◌, ◌+◌, ◌/◌, ◌<◌, ◌∙◌, refl, sym, ap, subst, arith}
use Rattle.gas_terms.specs.Cells.{Cells, HasSidesOf}
use Rattle.gas_terms.specs.Gas.{streamed}
use Rattle.phase_step.specs.OddPhase.{IsRowThere, HasSeam, IsSeamRowTurned, place_at}
use Rattle.phase_step.specs.Parts.{IsPartOf}
use Rattle.phase_step.specs.declared.odd_phase.RowPlace.{RowPlace}
use Rattle.phase_step.proofs.OddParts.{place_in, row_there_is}
use Rattle.phase_step.proofs.StripSweeps.{seam_on, first_on, rows_there, strip_turned}
use Rattle.phase_step.specs.Solid.{all_of}
use Rattle.phase_step.proofs.parts.strip_sweep.turn_strip.Goals as goal

pub loop-row-init : goal.loop-row-init
loop-row-init c =
    let solid = all_of c.of-known.result.solids.now in
    let part = c.args.part in
    let old = c.args.particles.now in
    let new = c.turn_seam.new.particles in
    let strip = c.requires.strip in
    let sized = c.down-down.ensures.lattice.sized in
    let place = place_in part old 0 in
    let same : c.place_of-above.result ≡ place = c.place_of-above.ensures ∙ ap (λ n. place_at part n 0) c.down-down.ensures.down in
    record {
      from = omega arith;
      sides = c.turn_seam.ensures.sides;
      turned = λ lattice of_solid is.
          let some = is.placed.some in
          let low : 0 + part.margin < old.height / 64 = omega (arith, some, strip) in
          let mid = streamed 1 lattice solid in
          let there = row_there_is part solid old 0 sized low lattice is of_solid old (record { wide = refl; high = refl }) in
          let seam : IsSeamRowTurned place mid old new =
          subst (λ (p : RowPlace). IsSeamRowTurned p mid old new) same
          (c.turn_seam.ensures.turned lattice
          (subst (λ (p : RowPlace). IsRowThere p solid old lattice) (sym same) there)
          (subst (λ (p : RowPlace). HasSeam p lattice.width old lattice) (sym same) (seam_on part solid old 0 sized low strip lattice is of_solid old (λ x y h k below. refl)))) in
          first_on part solid old 0 sized low strip lattice is of_solid new refl c.turn_seam.ensures.sides seam;
    }

pub turn_own_row-requires-clause-row : goal.turn_own_row-requires-clause-row
turn_own_row-requires-clause-row c =
    let from = c.loop-row.invariant.from in
    let test = c.loop-row-test.true in
    let down : c.down-down.result ≡ c.loop-row.particles.height / 64 = c.down-down.ensures.down ∙ ap (λ h. h / 64) (sym c.loop-row.invariant.sides.high) in
    (from, omega (arith, test, down))

pub turn_own_row-requires-clause-solid : goal.turn_own_row-requires-clause-solid
turn_own_row-requires-clause-solid c =
    let h = c.requires.ready in
    rows_there c.args.part (all_of c.of-known.result.solids.now) c.args.particles.now c.loop-row.particles h.lattice h.is (subst (λ (s : Cells). HasSidesOf s h.lattice) (sym (ap all_of c.of-known.ensures)) h.sides) c.loop-row.invariant.sides

pub loop-row-preserved : goal.loop-row-preserved
loop-row-preserved c =
    let sides = c.turn_own_row.ensures.sides in
    let so_far = c.loop-row.invariant in
    let from = so_far.from in
    record {
      from = omega (arith, from);
      sides = record { wide = sides.wide ∙ so_far.sides.wide; high = sides.high ∙ so_far.sides.high };
      turned = λ lattice of_solid is. c.turn_own_row.ensures.turned c.args.particles.now lattice of_solid is (so_far.turned lattice of_solid is);
    }

pub returns-clause-phases : goal.returns-clause-phases
returns-clause-phases c = λ lattice of_solid is.
    let old = c.args.particles.now in
    let part = c.args.part in
    let down = c.down-down.ensures.down in
    let some = is.placed.some in
    let strip = c.requires.strip in
    let end = c.loop-row-test.false in
    let most = c.loop-row.auto.row-end in
    subst (λ (s : Cells). HasSidesOf s lattice → IsPartOf part c.loop-row.particles (streamed 0 (streamed 1 lattice s) s) 64) (ap all_of c.of-known.ensures)
    (λ of_known. strip_turned part (all_of c.of-known.result.solids.now) old lattice c.loop-row.particles c.loop-row.row c.down-down.ensures.lattice.sized (omega (arith, down, some, end, most, strip)) strip is (c.loop-row.invariant.turned lattice of_known is))
    of_solid
