-- How a lattice goes on in a run, phase by phase.
use Rattle.std.proofs.Common.{◌≡◌, ℕ, zero, suc, ◌+◌, ◌*◌, ◌/◌, ◌≤◌, Bool, pos, refl, sym, ap, ap₂, mul-le-mul, ◌∙◌, arith}
use Rattle.gas_terms.specs.Cells.{Cells, HasSidesOf, IsFull, has, joined}
use Rattle.gas_terms.specs.Gas.{streamed}
use Rattle.gas_terms.proofs.Cells.{full-cells_where}
use Rattle.gas_terms.proofs.Steps.{full_streamed}
use Rattle.gas_plane.specs.Planes.{IsLattice}
use Rattle.phase_step.specs.Runs.{parity_at, tiles_take}
use Rattle.phase_step.specs.Actions.{Leaves, acted, after_with, flow_plus, no_flow, FlowsFit}
use Rattle.phase_step.specs.Balance.{flow_counted}
use Rattle.phase_step.specs.TileRuns.{tiles_move, phase_flow, tiles_flow}
use Rattle.phase_step.specs.WholeRuns.{Dynamics, after_all}
use Rattle.phase_step.specs.declared.sums.flow.Flow.{Flow}
use Rattle.phase_step.proofs.ActionParts.{part_after_with}
use Rattle.phase_step.proofs.ActionRuns.{sides_with, sized_with, acted_same}
use Rattle.phase_step.proofs.ActedTiles.{still_acts}
use Rattle.phase_step.proofs.FlowSums.{flows_add}
use Rattle.phase_step.proofs.StillRuns.{quiet_flow}
use Rattle.phase_step.proofs.TileFlows.{own_flow_next, own_flow_fits}
use Rattle.phase_strips.specs.Courses.{Course, IsQuiet, lattice_at, rows_give}

full_with : (p : ℕ) (solid : Cells) (leaves : ℕ → Leaves) (c : Cells) (k : ℕ) → IsFull c → IsFull (after_with p solid leaves c k)
full_with p solid leaves c zero full = full
full_with p solid leaves c (suc k) full =
    let come = streamed (parity_at p k) (after_with p solid leaves c k) solid in
    full-cells_where come.width come.height (λ x y. leaves k x y (has come x y))

-- it keeps its sides, and stays a lattice
pub course_sides : (course : Course) (k : ℕ) → HasSidesOf (lattice_at course k) course.start
course_sides course k = let d = course.dynamics in sides_with d.parity (joined d.walls d.obstacles) d.leaves course.start k

pub course_lattice : (course : Course) (k : ℕ) → IsLattice course.start → IsLattice (lattice_at course k)
course_lattice course k is =
    let d = course.dynamics in
    record {
      sized = sized_with d.parity (joined d.walls d.obstacles) d.leaves course.start k is.sized;
      full = full_with d.parity (joined d.walls d.obstacles) d.leaves course.start k is.full;
    }

-- Phase k, made by itself: its parity, and an action that leaves after its first phase what the run's leaves after phase k.
pub record IsPhase (course : Course) (k : ℕ) (turn : Dynamics) : Type 0 where
  pub parity : turn.parity ≡ parity_at course.dynamics.parity k
  pub walls : turn.walls ≡ course.dynamics.walls
  pub obstacles : turn.obstacles ≡ course.dynamics.obstacles
  pub same : (x y : ℕ) (held : Bool) → turn.leaves 0 x y held ≡ course.dynamics.leaves k x y held

module _ (course : Course) (k : ℕ) (turn : Dynamics) (is : IsPhase course k turn) where
  -- what comes of it
  pub phase_next : after_all turn (lattice_at course k) 1 ≡ lattice_at course (k + 1)
  phase_next =
      let d = course.dynamics in
      let now = lattice_at course k in
      ap₂ (λ (w o : Cells). after_with turn.parity (joined w o) turn.leaves now 1) is.walls is.obstacles
      ∙ part_after_with d.parity d.walls d.obstacles d.leaves course.start k 1 turn.parity now (after_with turn.parity (joined d.walls d.obstacles) turn.leaves now 1) turn.leaves
      (record {
        at = refl;
        parity = is.parity;
        same = λ j less x y held.
            let e : j ≡ 0 = omega arith in
            let f : k ≡ k + j = omega arith in
            ap (λ j. turn.leaves j x y held) e ∙ (is.same x y held ∙ ap (λ n. d.leaves n x y held) f);
        cells = refl;
      })

  -- what it comes to in so many rows of tiles
  abbrev phase_gives : ℕ → ℕ → Flow
  phase_gives first rows =
      let a = (lattice_at course k).width / 64 in flow_counted course.counted (tiles_flow turn (lattice_at course k) (first * a) (rows * a) 1)

  gives : (first rows : ℕ) → let d = course.dynamics in let a = course.start.width / 64 in
      phase_gives first rows ≡ flow_counted course.counted (phase_flow d course.start (first * a) (rows * a) k)
  gives first rows =
      let d = course.dynamics in
      let now = lattice_at course k in
      let parity = is.parity in
      let here : parity_at turn.parity 0 ≡ parity_at d.parity k = omega (arith, parity) in
      let next : parity_at turn.parity 1 ≡ parity_at d.parity (suc k) = omega (arith, parity) in
      let come : ℕ → Cells = λ q. streamed q now (joined d.walls d.obstacles) in
      let flow : ℕ → ℕ → Cells → ℕ → Flow = λ q t (left : Cells) a.
      record { took = tiles_take q now d.walls d.obstacles (first * a) (rows * a); moved = tiles_move (pos t) (come q) left (first * a) (rows * a) } in
      ap (flow_counted course.counted)
      (flows_add.left (phase_flow turn now (first * (now.width / 64)) (rows * (now.width / 64)) 0)
      ∙ (ap₂ (λ (w o : Cells). phase_flow (record { parity = turn.parity; walls = w; obstacles = o; leaves = turn.leaves }) now (first * (now.width / 64)) (rows * (now.width / 64)) 0) is.walls is.obstacles
      ∙ (ap₂ (λ q t. flow q t (acted (turn.leaves 0) (come q)) (now.width / 64)) here next
      ∙ ap₂ (λ (left : Cells) w. flow (parity_at d.parity k) (parity_at d.parity (suc k)) left (w / 64)) (acted_same (turn.leaves 0) (d.leaves k) (come (parity_at d.parity k)) is.same) (course_sides course k).wide)))

  pub rows_next : (first rows : ℕ) (here : Flow) → here ≡ phase_gives first rows → flow_plus (rows_give course k first rows) here ≡ rows_give course (k + 1) first rows
  rows_next first rows here e =
      let d = course.dynamics in
      let a = course.start.width / 64 in
      own_flow_next d course.start course.counted (first * a) (rows * a) k (rows_give course k first rows) here refl (e ∙ gives first rows)

  pub rows_next_fit : (first rows : ℕ) (here : Flow) → here ≡ phase_gives first rows → rows * (course.start.width / 64) ≤ 4096 → k ≤ 65536 → FlowsFit (rows_give course k first rows) here
  rows_next_fit first rows here e few short =
      let d = course.dynamics in
      let a = course.start.width / 64 in
      own_flow_fits d course.start course.counted (first * a) (rows * a) k (rows_give course k first rows) here refl (e ∙ gives first rows) few short

-- A quiet run: two phases in one sweep, and what the rows of a strip come to.
module _ (course : Course) (quiet : IsQuiet course) where
  abbrev solid : Cells
  solid = joined course.dynamics.walls course.dynamics.obstacles

  pub two_next : (k : ℕ) → parity_at course.dynamics.parity k ≡ 1 → streamed 0 (streamed 1 (lattice_at course k) solid) solid ≡ lattice_at course (k + 2)
  two_next k odd =
      let d = course.dynamics in
      let now = lattice_at course k in
      let even : parity_at d.parity (suc k) ≡ 0 = omega (arith, odd) in
      let first : Cells = streamed 1 now solid in
      let acted_first : Cells = acted (d.leaves k) first in
      let next : suc (suc k) ≡ k + 2 = omega arith in
      ap (λ (c : Cells). streamed 0 c solid) (still_acts (d.leaves k) first (full_streamed 1 now solid) (quiet.still k))
      ∙ (still_acts (d.leaves (suc k)) (streamed 0 acted_first solid) (full_streamed 0 acted_first solid) (quiet.still (suc k))
      ∙ (ap₂ (λ q r. acted (d.leaves (suc k)) (streamed r (acted (d.leaves k) (streamed q now solid)) solid)) (sym odd) (sym even)
      ∙ ap (lattice_at course) next))

  pub rows_quiet : (k first rows : ℕ) → IsLattice course.start → HasSidesOf course.dynamics.walls course.start → HasSidesOf course.dynamics.obstacles course.start → first + rows ≤ course.start.height / 64 → rows_give course k first rows ≡ no_flow
  rows_quiet k first rows is of_walls of_obstacles inside =
      let d = course.dynamics in
      let a = course.start.width / 64 in
      let all : (first + rows) * a ≤ course.start.height / 64 * a = mul-le-mul inside (let same : a ≤ a = omega arith in same) in
      let turn : course.start.height / 64 * a ≡ a * (course.start.height / 64) = omega arith in
      sym (quiet_flow d course.start is quiet.still course.counted (first * a) (rows * a) k (omega (arith, all, turn)) of_walls of_obstacles quiet.untaken)
