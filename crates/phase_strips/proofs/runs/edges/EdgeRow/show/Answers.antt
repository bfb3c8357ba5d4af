use Rattle.std.proofs.Common.{◌≡◌, ◌/◌, ◌∙◌, drop, length, sym, ap}
use Rattle.phase_strips.specs.Courses.{lattice_at}
use Rattle.phase_strips.proofs.Courses.{course_sides}
use Rattle.phase_strips.proofs.EdgeRows.{row_written}
use Rattle.phase_strips.proofs.runs.edges.EdgeRow.show.Goals as goal

pub row_bytes-requires-clause-out : goal.row_bytes-requires-clause-out
row_bytes-requires-clause-out g c =
    let course = g.N.RunName.course in
    ap length c.as_mut_slice.ensures.value
    ∙ (c.args.self.now.is.len ∙ ap (λ w. w / 8) ((course_sides course c.args.self.now.phases).wide ∙ (sym (course_sides course c.args.phases).wide ∙ sym c.requires.is.wide)))

pub invariant_of-self : goal.invariant_of-self
invariant_of-self g c =
    let bytes = c.args.self.now.bytes in
    let new = c.row_bytes.new.out in
    let course = g.N.RunName.course in
    let len : length bytes.items ≡ c.args.cells.now.width / 8 = c.args.self.now.is.len ∙ ap (λ w. w / 8) ((course_sides course c.args.self.now.phases).wide ∙ (sym (course_sides course c.args.phases).wide ∙ sym c.requires.is.wide)) in
    record {
      is = row_written (lattice_at course c.args.phases) c.args.cells.now c.args.row c.args.y bytes.len new (drop (length new) bytes.items) c.shows_lattice.ensures c.requires.is c.row_bytes.ensures (sym c.as_mut_slice.ensures.len ∙ (ap length c.as_mut_slice.ensures.value ∙ len));
    }
