use Rattle.std.proofs.Common.{◌/◌, ◌∙◌, length, sym, ap, subst}
use Rattle.phase_strips.specs.Courses.{lattice_at, HasCellRow, AreRowBytes}
use Rattle.phase_strips.proofs.Courses.{course_sides}
use Rattle.phase_strips.proofs.EdgeRows.{row_put, others_kept}
use Rattle.phase_strips.proofs.runs.edges.EdgeRow.put.Goals as goal

pub set_row-requires-clause-bytes : goal.set_row-requires-clause-bytes
set_row-requires-clause-bytes g c =
    let row = c.args.self.now in
    ap length c.as_slice.ensures.value ∙ (row.is.len ∙ ap (λ w. w / 8) ((course_sides g.N.RunName.course row.phases).wide ∙ sym c.requires.wide))

pub returns-clause-row : goal.returns-clause-row
returns-clause-row g c = λ row phases e f.
    let course = g.N.RunName.course in
    let shown = c.args.self.now in
    let new = c.set_row.new.self in
    let here = row_put (lattice_at course shown.phases) c.args.cells.now new shown.row c.args.y c.as_slice.result.now (c.requires.wide ∙ sym (course_sides course shown.phases).wide) c.requires.y (subst (AreRowBytes (lattice_at course shown.phases) shown.row) (sym c.as_slice.ensures.value) shown.is) c.set_row.ensures in
    subst (λ r. HasCellRow (lattice_at course phases) r new c.args.y) e (subst (λ p. HasCellRow (lattice_at course p) shown.row new c.args.y) f here)

pub returns-clause-kept : goal.returns-clause-kept
returns-clause-kept g c = others_kept c.args.cells.now c.set_row.new.self c.args.y c.as_slice.result.now c.set_row.ensures
