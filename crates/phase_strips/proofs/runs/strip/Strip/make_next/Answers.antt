use Rattle.std.proofs.Common.{◌≡◌, ◌+◌, ◌/◌, ◌∙◌, sym, ap, subst, arith}
use Rattle.gas_terms.specs.Cells.{Cells, HasSidesOf, joined}
use Rattle.gas_terms.specs.Gas.{streamed}
use Rattle.gas_plane.specs.Planes.{IsLattice}
use Rattle.phase_step.specs.Parts.{HasRows, IsPartOf}
use Rattle.phase_step.specs.Runs.{parity_at}
use Rattle.phase_step.specs.declared.parts.Part.{Part}
use Rattle.phase_strips.specs.Courses.{lattice_at}
use Rattle.phase_strips.specs.Strips.{place_of}
use Rattle.phase_strips.proofs.Courses.{course_sides, rows_quiet, two_next}
use Rattle.phase_strips.proofs.StripParts.{odd_part, walls_there}
use Rattle.phase_strips.proofs.runs.strip.Strip.make_next.Given.{Over}
use Rattle.phase_strips.proofs.runs.strip.Strip.make_next.Goals.{After-part_of-part}
use Rattle.phase_strips.proofs.runs.strip.Strip.make_next.Goals as goal

-- the lattice before the two phases, its walls, and the strip as a part of it
abbrev before : (g : Over) (c : After-part_of-part g) → Cells
before g c = lattice_at g.N.RunName.course (c.args.input.now.from + c.args.k)

abbrev solid : (g : Over) (c : After-part_of-part g) → Cells
solid g c = let s = c.args.input.now.solids.now in joined s.walls s.obstacles

of_solid : (g : Over) (c : After-part_of-part g) → HasSidesOf (solid g c) (before g c)
of_solid g c =
    let i = c.args.input.now in
    let walls = subst (HasSidesOf i.solids.now.walls) (sym i.start) i.of_walls in
    walls_there g.N.RunName.course (i.from + c.args.k) (solid g c) (record { wide = walls.wide; high = walls.high })

is_odd : (g : Over) (c : After-part_of-part g) → parity_at g.N.RunName.course.dynamics.parity (c.args.input.now.from + c.args.k) ≡ 1
is_odd g c =
    let i = c.args.input.now in
    let odd = c.if-odd.true in
    let parity = c.parity_at-odd.ensures.parity in
    ap (λ p. parity_at p (i.from + c.args.k)) i.parity_is ∙ (let e : parity_at i.parity (i.from + c.args.k) ≡ 1 = omega (arith, odd, parity) in e)

is_part : (g : Over) (c : After-part_of-part g) → IsPartOf c.part_of-part.result c.args.self.now.cells (before g c) 63
is_part g c =
    let i = c.args.input.now in
    let s = c.args.self.now in
    subst (λ (part : Part). IsPartOf part s.cells (before g c) 63) (sym c.part_of-part.ensures)
    (odd_part g.N.RunName.course (i.from + c.args.k) (i.particles.now.height / 64) s (subst IsLattice (sym i.start) i.lattice) c.requires.at.of_lattice (ap (λ (c : Cells). c.height / 64) (sym i.start)) (is_odd g c) c.requires.at.before)

pub turn_strip-requires-clause-ready : goal.turn_strip-requires-clause-ready
turn_strip-requires-clause-ready g c =
    let at = (goal.at.turn_strip-requires-clause-ready g c).After-part_of-part in
    record { lattice = before g at; is = is_part g at; sides = of_solid g at }

pub returns-then-k-input-clause-made : goal.returns-then-k-input-clause-made
returns-then-k-input-clause-made g c =
    let at = (goal.at.returns-then-k-input-clause-made g c).After-part_of-part in
    let i = c.args.input.now in
    let s = c.args.self.now in
    let own = s.own in
    let course = g.N.RunName.course in
    let k = i.from + c.args.k in
    let new = c.turn_strip.new.particles in
    let of_lattice = c.requires.at.of_lattice in
    let sides = c.turn_strip.ensures.sides in
    let quiet = i.is_quiet c.if-input.true in
    let now = before g at in
    let next : streamed 0 (streamed 1 now (solid g at)) (solid g at) ≡ lattice_at course (k + 2) =
    subst (λ (s : Cells). streamed 0 (streamed 1 now s) s ≡ lattice_at course (k + 2)) (ap (λ (w : Cells). joined w course.dynamics.obstacles) i.walls ∙ ap (λ (o : Cells). joined i.solids.now.walls o) i.obstacles) (two_next course quiet k (is_odd g at)) in
    let rows = (c.turn_strip.ensures.phases now (of_solid g at) (is_part g at)).rows in
    let placed : HasRows (place_of (i.particles.now.height / 64) own) new (lattice_at course (k + 2)) 64 =
    subst (λ (lattice : Cells). HasRows (place_of (i.particles.now.height / 64) own) new lattice 64) next
    (subst (λ (part : Part). HasRows part new (streamed 0 (streamed 1 now (solid g at)) (solid g at)) 64) c.part_of-part.ensures rows) in
    let start = subst IsLattice (sym i.start) i.lattice in
    let walls : HasSidesOf course.dynamics.walls course.start = subst (λ (w : Cells). HasSidesOf w course.start) (sym i.walls) (subst (HasSidesOf i.solids.now.walls) (sym i.start) i.of_walls) in
    let obstacles : HasSidesOf course.dynamics.obstacles course.start = subst (λ (o : Cells). HasSidesOf o course.start) (sym i.obstacles) (subst (HasSidesOf i.solids.now.obstacles) (sym i.start) i.of_obstacles) in
    let inside = of_lattice.inside.inside in
    record {
      of_lattice = record { inside = of_lattice.inside; wide = sides.wide ∙ of_lattice.wide; high = sides.high ∙ of_lattice.high };
      rows = subst (λ d. HasRows (place_of d own) new (lattice_at course (k + 2)) 64)
          (ap (λ n. n / 64) (ap (λ (c : Cells). c.height) (sym i.start) ∙ sym (course_sides course (k + 2)).high)) placed;
      flow = c.requires.at.flow ∙ (rows_quiet course quiet k own.first own.rows start walls obstacles inside ∙ sym (rows_quiet course quiet (k + 2) own.first own.rows start walls obstacles inside));
    }
