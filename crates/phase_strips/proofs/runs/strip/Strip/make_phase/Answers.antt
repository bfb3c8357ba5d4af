use Rattle.std.proofs.Common.{◌≡◌, ◌+◌, ◌-◌, ◌*◌, ◌/◌, ◌≤◌, ◌∙◌, min, sym, ap, subst, arith}
use Rattle.std.proofs.Math.Nat.{min-eq_left}
use Rattle.std.proofs.lemmas.Nat.{mul-le}
use Rattle.gas_terms.specs.Cells.{Cells, HasSidesOf, extent}
use Rattle.gas_plane.specs.Planes.{IsLattice}
use Rattle.gas_plane.proofs.Places.{wide, high}
use Rattle.block_rule.specs.declared.walled.Counted.{Counted}
use Rattle.phase_step.specs.Parts.{part_run, HasRows, HasRun, IsPartOf}
use Rattle.phase_step.specs.WholeRuns.{Dynamics, dynamics}
use Rattle.phase_step.specs.Runs.{parity_at}
use Rattle.phase_step.specs.Balance.{flow_counted}
use Rattle.phase_step.specs.Exchanges.{listed}
use Rattle.phase_step.specs.TileRuns.{tiles_flow}
use Rattle.phase_step.specs.declared.parts.Part.{Part}
use Rattle.phase_step.proofs.RowRuns.{strip_flow}
use Rattle.phase_strips.specs.Courses.{lattice_at}
use Rattle.phase_strips.specs.Strips.{place_of}
use Rattle.phase_strips.proofs.Courses.{IsPhase, course_sides, phase_next, rows_next, rows_next_fit}
use Rattle.phase_strips.proofs.StripParts.{strip_part}
use Rattle.phase_strips.proofs.runs.strip.Strip.make_phase.Given.{Over}
use Rattle.phase_strips.proofs.runs.strip.Strip.make_phase.Goals.{After-parity_at, After-run_part}
use Rattle.phase_strips.proofs.runs.strip.Strip.make_phase.Goals as goal

-- the lattice before the phase, and the strip as a part of it
abbrev before : (g : Over) (c : After-parity_at g) → Cells
before g c = lattice_at g.N.RunName.course (c.args.input.now.from + c.args.k)

is_part : (g : Over) (c : After-parity_at g)
    → let s = c.args.self.now in
    IsPartOf c.part_of-part.result s.cells (before g c) (64 - c.parity_at.result)
is_part g c =
    let i = c.args.input.now in
    let s = c.args.self.now in
    let course = g.N.RunName.course in
    let k = i.from + c.args.k in
    let start = i.start in
    let down : i.particles.now.height / 64 ≡ course.start.height / 64 = ap (λ (c : Cells). c.height / 64) (sym start) in
    let parity : parity_at course.dynamics.parity k ≡ c.parity_at.result = ap (λ p. parity_at p k) i.parity_is ∙ sym c.parity_at.ensures.parity in
    subst (λ (part : Part). IsPartOf part s.cells (before g c) (64 - c.parity_at.result)) (sym c.part_of-part.ensures)
    (strip_part course k (64 - c.parity_at.result) (i.particles.now.height / 64) s (subst IsLattice (sym start) i.lattice) c.requires.at.of_lattice down
    (subst (λ p. HasRows (place_of ((lattice_at course k).height / 64) s.own) s.cells (lattice_at course k) (64 - p)) parity c.requires.at.before))

-- the walls have its sides
of_walls : (g : Over) (c : After-parity_at g) → HasSidesOf c.args.input.now.solids.now.walls (before g c)
of_walls g c =
    let i = c.args.input.now in
    let sides = course_sides g.N.RunName.course (i.from + c.args.k) in
    let walls = subst (HasSidesOf i.solids.now.walls) (sym i.start) i.of_walls in
    record { wide = walls.wide ∙ sym sides.wide; high = walls.high ∙ sym sides.high }

-- how the lattice goes on in it
abbrev turn : (g : Over) (c : After-parity_at g) → Dynamics
turn g c = let i = c.args.input.now in dynamics c.parity_at.result i.solids.now (λ j x y held. listed i.exchanges.now (min (c.args.k + j) 65535) x y held)

is_phase : (g : Over) (c : After-parity_at g) → IsPhase g.N.RunName.course (c.args.input.now.from + c.args.k) (turn g c)
is_phase g c =
    let i = c.args.input.now in
    let few = i.few in
    let less = c.requires.k in
    let k : min (c.args.k + 0) 65535 ≡ c.args.k = min-eq_left (omega (arith, few, less)) ∙ (let e : c.args.k + 0 ≡ c.args.k = omega arith in e) in
    record {
      parity = c.parity_at.ensures.parity ∙ ap (λ p. parity_at p (i.from + c.args.k)) (sym i.parity_is);
      walls = sym i.walls;
      obstacles = sym i.obstacles;
      same = λ x y held. ap (λ j. listed i.exchanges.now j x y held) k ∙ i.lists c.args.k c.requires.k x y held;
    }

pub run_part-requires : goal.run_part-requires
run_part-requires g c =
    let at = (goal.at.run_part-requires g c).After-parity_at in
    record {
      parity = c.parity_at.ensures.small;
      ready = record { lattice = before g at; is = is_part g at; sides = of_walls g at };
      few = subst (λ (part : Part). part.margin * 1 ≤ 1) (sym c.part_of-part.ensures) (omega arith);
    }

pub returns-clause-rows : goal.returns-clause-rows
returns-clause-rows g c =
    let at = (goal.at.returns-clause-rows g c).After-parity_at in
    let s = c.args.self.now in
    let i = c.args.input.now in
    let course = g.N.RunName.course in
    let k = i.from + c.args.k in
    let down = i.particles.now.height / 64 in
    let run : HasRun (part_run (place_of down s.own) i.counted (turn g at) 1) s.cells (before g at) c.run_part.new.particles c.run_part.result =
    subst (λ (part : Part). HasRun (part_run part i.counted (turn g at) 1) s.cells (before g at) c.run_part.new.particles c.run_part.result) c.part_of-part.ensures (c.run_part.ensures.run (before g at) (of_walls g at) (is_part g at)) in
    let next = phase_next course k (turn g at) (is_phase g at) in
    let here : HasRows (record { first = s.own.first; down = down; margin = 1 }) c.run_part.new.particles (lattice_at course (k + 1)) 64 = subst (λ (lattice : Cells). HasRows (record { first = s.own.first; down = down; margin = 1 }) c.run_part.new.particles lattice 64) next run.is.rows in
    subst (λ d. HasRows (record { first = s.own.first; down = d; margin = 1 }) c.run_part.new.particles (lattice_at course (k + 1)) 64)
    (ap (λ n. n / 64) (ap (λ (c : Cells). c.height) (sym i.start) ∙ sym (course_sides course (k + 1)).high)) here

pub returns-clause-flow : goal.returns-clause-flow
returns-clause-flow g c =
    let at = (goal.at.returns-clause-flow g c).After-parity_at in
    let s = c.args.self.now in
    let i = c.args.input.now in
    let course = g.N.RunName.course in
    let k = i.from + c.args.k in
    let down = i.particles.now.height / 64 in
    let run : HasRun (part_run (place_of down s.own) i.counted (turn g at) 1) s.cells (before g at) c.run_part.new.particles c.run_part.result =
    subst (λ (part : Part). HasRun (part_run part i.counted (turn g at) 1) s.cells (before g at) c.run_part.new.particles c.run_part.result) c.part_of-part.ensures (c.run_part.ensures.run (before g at) (of_walls g at) (is_part g at)) in
    let own = s.own in
    let gives = strip_flow own.first down own.rows 1 i.counted (turn g at) s.cells (before g at) c.run_part.new.particles c.run_part.result c.requires.at.of_lattice.high run in
    let kept = gives ∙ ap (λ (kept : Counted). flow_counted kept (tiles_flow (turn g at) (before g at) (own.first * ((before g at).width / 64)) (own.rows * ((before g at).width / 64)) 1)) (sym i.counted_is) in
    let start = subst IsLattice (sym i.start) i.lattice in
    let inside = c.requires.at.of_lattice.inside.inside in
    let few : own.rows * (course.start.width / 64) ≤ 4096 = mul-le own.rows (course.start.width / 64) 64 64 (let tall = (high (extent course.start) start.sized).few in omega (arith, inside, tall)) (wide (extent course.start) start.sized).few in
    let short = i.few in
    let less = c.requires.k in
    record {
      fits = rows_next_fit course k (turn g at) (is_phase g at) own.first own.rows c.run_part.result kept few (omega (arith, short, less));
      next = rows_next course k (turn g at) (is_phase g at) own.first own.rows c.run_part.result kept;
    }
