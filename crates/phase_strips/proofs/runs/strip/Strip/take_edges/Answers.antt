use Rattle.std.proofs.Common.{rules, ◌≡◌, ◌+◌, ◌-◌, ◌*◌, ◌%◌, ap, sym, subst, ◌∙◌, arith}
use Rattle.std.specs.Bool.{IsTrue}
use Rattle.gas_terms.specs.Cells.{Cells, Extent, extent}
use Rattle.gas_plane.specs.Planes.{IsLattice}
use Rattle.gas_plane.proofs.Places.{high}
use Rattle.phase_strips.specs.Courses.{lattice_at}
use Rattle.phase_strips.proofs.Courses.{course_sides, course_lattice}
use Rattle.phase_strips.proofs.EdgeRows.{edges_taken}
use Rattle.phase_strips.proofs.runs.strip.Strip.take_edges.Goals as goal

pub returns-then-take_row-clause-rows : goal.returns-then-take_row-clause-rows
returns-then-take_row-clause-rows g c = λ good.
    let s = c.args.self.now in
    let i = c.args.input.now in
    let course = g.N.RunName.course in
    let lattice = lattice_at course c.args.phases in
    let strip = c.requires.strip in
    let sides = course_sides course c.args.phases in
    let is = course_lattice course c.args.phases (subst IsLattice (sym i.start) i.lattice) in
    let h : c.from-height.result ≡ lattice.height = c.from-height.ensures ∙ (c.height.ensures ∙ (ap (λ (e : Extent). e.height) c.size.ensures.extent ∙ (ap (λ (c : Cells). c.height) (sym i.start) ∙ sym sides.high))) in
    let tiles = (high (extent lattice) is.sized).tiles in
    let above : IsTrue c.take_row.result = search rules in
    edges_taken lattice s.cells c.take_row.new.cells c.take_row-then-take_row.new.cells s.own c.before-upper.result c.after-lower.result
    (record {
      some = strip.inside.some;
      down_some = (high (extent lattice) is.sized).some;
      whole = omega (arith, tiles);
      wide = strip.wide ∙ sym sides.wide;
      tall = strip.high;
      rows = c.requires.rows;
      upper_is = c.before-upper.ensures.place ∙ ap (λ h. (s.own.first * 64 + h - 1) % h) h;
      lower_is = c.after-lower.ensures.place ∙ ap (λ h. ((s.own.first + s.own.rows) * 64 - 1 + 1) % h) h;
      above = c.take_row.ensures.row above;
      above_kept = c.take_row.ensures.kept;
      below = c.take_row-then-take_row.ensures.row good;
      below_kept = c.take_row-then-take_row.ensures.kept;
    })
