use Rattle.std.proofs.Common.{◌≡◌, ◌+◌, ◌*◌, ◌/◌, ◌%◌, ◌<◌, length, refl, sym, ap, ap₂, ◌∙◌, subst, arith, inl, inr}
use Rattle.std.proofs.lemmas.Bool.{cases_lt}
use Rattle.gas_terms.specs.Cells.{Cells, HasSidesOf, extent, has}
use Rattle.gas_terms.proofs.Cells.{same_cells}
use Rattle.gas_plane.specs.Planes.{IsLattice}
use Rattle.gas_plane.proofs.Places.{high}
use Rattle.phase_step.specs.Actions.{FlowsFit, flow_plus}
use Rattle.phase_step.specs.Parts.{HasRows}
use Rattle.phase_step.specs.declared.sums.flow.Flow.{Flow}
use Rattle.phase_strips.specs.Courses.{lattice_at, rows_give}
use Rattle.phase_strips.specs.Strips.{place_of, HasOwnRows, IsAt, IsOf, row_at}
use Rattle.phase_strips.specs.declared.runs.strip.Strip.{Strip}
use Rattle.phase_strips.proofs.Courses.{course_sides, course_lattice}
use Rattle.phase_strips.proofs.Flows.{no_rows_give, more_rows_give, all_rows_give, rows_fit}
use Rattle.phase_strips.proofs.LaidStrips.{row_first, row_last, row_inside, first_is, end_is, count_some, count_few}
use Rattle.phase_strips.proofs.StripParts.{own_rows}
use Rattle.phase_strips.proofs.runs.gather.Goals as goal

pub loop-strip-init : goal.loop-strip-init
loop-strip-init c =
    let first = row_first (c.args.cells.now.height / 64) (length c.args.strips.now) in
    record {
      lattice = c.requires.is;
      sides = record { wide = refl; high = refl };
      put = λ course k start each r less. absurd (omega (arith, first, less));
      flow = λ course k start each. no_rows_give course k ∙ ap (rows_give course k 0) (sym first);
    }

pub plus-flow-requires : goal.plus-flow-requires
plus-flow-requires c =
    let strips = c.args.strips.now in
    let some = c.requires.at in
    let course = some.course in
    let k = some.phases in
    let j = c.loop-strip.strip-index in
    let s = c.strip-item.result in
    let down = c.args.cells.now.height / 64 in
    let laid = c.requires.strips.laid in
    let n = length strips in
    let is = subst IsLattice (sym some.start) c.requires.is in
    let here = subst (IsAt course k) (sym c.strip-item.is) (some.each j s c.loop-strip-test.true) in
    let few = (high (extent course.start) is.sized).few in
    let down_is : down ≡ course.start.height / 64 = ap (λ (c : Cells). c.height / 64) (sym some.start) in
    let at = row_inside down n j (count_some down strips laid) (count_few down strips laid) (omega (arith, c.loop-strip-test.true)) in
    let inside = here.of_lattice.inside.inside in
    subst (λ (f : Flow). FlowsFit f s.flow) (sym (c.loop-strip.invariant.flow course k some.start some.each))
    (subst (FlowsFit (rows_give course k 0 (row_at down n j))) (sym here.flow)
    (rows_fit course k 0 (row_at down n j) s.own.first s.own.rows is.sized some.few (omega (arith, at, down_is, few)) (omega (arith, inside, few))))

pub loop-strip-preserved : goal.loop-strip-preserved
loop-strip-preserved c =
    let strips = c.args.strips.now in
    let was = c.loop-strip.invariant in
    let j = c.loop-strip.strip-index in
    let s = c.strip-item.result in
    let down = c.args.cells.now.height / 64 in
    let n = length strips in
    let laid = c.requires.strips.laid in
    let sides = c.put_rows.ensures.sides in
    let first : s.own.first ≡ row_at down n j = subst (λ (t : Strip). t.own.first ≡ row_at down n j) (sym c.strip-item.is) (first_is down strips laid j s c.loop-strip-test.true) in
    let end : s.own.first + s.own.rows ≡ row_at down n (j + 1) = subst (λ (t : Strip). t.own.first + t.own.rows ≡ row_at down n (j + 1)) (sym c.strip-item.is) (end_is down strips laid j s c.loop-strip-test.true) in
    let inside = (subst (IsOf (extent c.args.cells.now)) (sym c.strip-item.is) (c.requires.strips.each j s c.loop-strip-test.true)).inside.inside in
    record {
      lattice = c.put_rows.ensures.lattice;
      sides = record { wide = sides.wide ∙ was.sides.wide; high = sides.high ∙ was.sides.high };
      put = λ course k start each r less.
          let lattice = lattice_at course k in
          let kept = course_sides course k in
          let same : HasSidesOf c.args.cells.now lattice = record { wide = ap (λ (c : Cells). c.width) (sym start) ∙ sym kept.wide; high = ap (λ (c : Cells). c.height) (sym start) ∙ sym kept.high } in
          let here : HasSidesOf c.loop-strip.cells lattice = record { wide = was.sides.wide ∙ same.wide; high = was.sides.high ∙ same.high } in
          let is = subst (IsAt course k) (sym c.strip-item.is) (each j s c.loop-strip-test.true) in
          let rows : HasOwnRows lattice s = own_rows course k s is.before in
          let done = c.put_rows.ensures.rows lattice here (subst (λ h. HasRows (place_of (h / 64) s.own) s.cells lattice 64) (sym here.high) rows) in
          let e = ap (λ h. h / 64) same.high in
          elim (cases_lt r (row_at down n j)) [
            | inl before ↦ done.kept r (omega (arith, less, end, inside, e)) (was.put course k start each r before)
            | inr from ↦ done.put r (omega (arith, first, from)) (omega (arith, end, less))
          ];
      flow = λ course k start each.
          let is = subst (IsAt course k) (sym c.strip-item.is) (each j s c.loop-strip-test.true) in
          let rows : row_at down n j + s.own.rows ≡ row_at down n (j + 1) = ap (λ m. m + s.own.rows) (sym first) ∙ end in
          c.plus-flow.ensures
          ∙ (ap₂ flow_plus (was.flow course k start each) (is.flow ∙ ap (λ m. rows_give course k m s.own.rows) first)
          ∙ (more_rows_give course k (row_at down n j) s.own.rows
          ∙ ap (rows_give course k 0) rows));
    }

pub returns-clause-cells : goal.returns-clause-cells
returns-clause-cells c = λ course k start each.
    let strips = c.args.strips.now in
    let was = c.loop-strip.invariant in
    let now = c.loop-strip.cells in
    let lattice = lattice_at course k in
    let is = course_lattice course k (subst IsLattice (sym start) c.requires.is) in
    let kept = course_sides course k in
    let down = c.args.cells.now.height / 64 in
    let tiles = (high (extent lattice) is.sized).tiles in
    let end : c.loop-strip.strip-index ≡ length strips = omega arith in
    let all : row_at down (length strips) c.loop-strip.strip-index ≡ down = ap (row_at down (length strips)) end ∙ row_last down (length strips) (count_some down strips c.requires.strips.laid) in
    let wide_is : now.width ≡ lattice.width = was.sides.wide ∙ (ap (λ (c : Cells). c.width) (sym start) ∙ sym kept.wide) in
    let same_high : c.args.cells.now.height ≡ lattice.height = ap (λ (c : Cells). c.height) (sym start) ∙ sym kept.high in
    let high_is : now.height ≡ lattice.height = was.sides.high ∙ same_high in
    let down_is : down ≡ lattice.height / 64 = ap (λ h. h / 64) same_high in
    same_cells now lattice was.lattice.full is.full wide_is high_is
    (λ x y xl yl.
    let y_is : y ≡ y / 64 * 64 + y % 64 = omega arith in
    let row = was.put course k start each (y / 64) (let e = high_is in omega (arith, all, down_is, tiles, yl, e)) in
    ap (has now x) y_is ∙ (row.cell x (y % 64) (subst (λ w. x < w) wide_is xl) (omega arith) ∙ sym (ap (has lattice x) y_is)))

pub returns-clause-flow : goal.returns-clause-flow
returns-clause-flow c = λ course k start each.
    let strips = c.args.strips.now in
    let down = c.args.cells.now.height / 64 in
    let n = length strips in
    let end : c.loop-strip.strip-index ≡ n = omega arith in
    let all : row_at down n c.loop-strip.strip-index ≡ course.start.height / 64 = ap (row_at down n) end ∙ (row_last down n (count_some down strips c.requires.strips.laid) ∙ ap (λ (c : Cells). c.height / 64) (sym start)) in
    c.loop-strip.invariant.flow course k start each ∙ (ap (rows_give course k 0) all ∙ all_rows_give course k (subst IsLattice (sym start) c.requires.is).sized)
