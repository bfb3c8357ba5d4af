use Rattle.std.proofs.Common.{◌+◌, ◌-◌, ◌*◌, ◌/◌, ap, sym, ◌∙◌, arith}
use Rattle.phase_strips.specs.Courses.{lattice_at}
use Rattle.phase_strips.proofs.Courses.{course_sides}
use Rattle.phase_strips.proofs.EdgeRows.{own_shown}
use Rattle.phase_strips.proofs.runs.strip.Strip.show_edges.Goals as goal

pub show_row-requires-clause-is : goal.show_row-requires-clause-is
show_row-requires-clause-is g c =
    let s = c.args.self.now in
    let course = g.N.RunName.course in
    let strip = c.requires.strip in
    let sides = course_sides course c.args.phases in
    let down = ap (λ h. h / 64) sides.high in
    let inside = strip.inside.inside in
    let some = strip.inside.some in
    own_shown (lattice_at course c.args.phases) s.cells s.own (s.own.first * 64) 64 some (omega (arith, down, inside)) (strip.wide ∙ sym sides.wide) strip.high c.requires.rows (omega arith) (omega (arith, some)) (omega arith)

pub show_row-requires-then-show_row-clause-is : goal.show_row-requires-then-show_row-clause-is
show_row-requires-then-show_row-clause-is g c =
    let s = c.args.self.now in
    let course = g.N.RunName.course in
    let strip = c.requires.strip in
    let sides = course_sides course c.args.phases in
    let down = ap (λ h. h / 64) sides.high in
    let inside = strip.inside.inside in
    let some = strip.inside.some in
    own_shown (lattice_at course c.args.phases) s.cells s.own ((s.own.first + s.own.rows) * 64 - 1) (s.own.rows * 64 + 63) some (omega (arith, down, inside)) (strip.wide ∙ sym sides.wide) strip.high c.requires.rows (omega (arith, some)) (omega arith) (omega (arith, some))
