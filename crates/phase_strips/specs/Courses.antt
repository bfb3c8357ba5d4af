-- Runs by strips: what the lattice is after some phases, which of its rows strips show each other, and what a strip has done.
use Rattle.std.specs.Prelude.{◌≡◌, ◌≢◌, ℕ, ◌+◌, ◌*◌, ◌/◌, ◌<◌, Bool, false, List, length}
use Rattle.gas_terms.specs.Cells.{Cells, Extent, cells_where, extent, has, HasSidesOf}
use Rattle.gas_terms.specs.Rows.{row_has}
use Rattle.gas_plane.specs.Planes.{IsLattice}
use Rattle.block_rule.specs.declared.walled.Counted.{Counted}
use Rattle.phase_step.specs.Actions.{Leaves, IsStill}
use Rattle.phase_step.specs.Exchanges.{Areas, listed}
use Rattle.phase_step.specs.SolidBlocks.{AreOfNone}
use Rattle.phase_step.specs.TileRuns.{tiles_flow}
use Rattle.phase_step.specs.WholeRuns.{Dynamics, after_all, every, flow_all}
use Rattle.phase_step.specs.Balance.{flow_counted}
use Rattle.phase_step.specs.declared.sums.flow.Flow.{Flow}

-- A run: the lattice at its start, how it goes on, and which accounts are kept.
pub record Course : Type 0 where
  pub start : Cells
  pub dynamics : Dynamics
  pub counted : Counted

abbrev pub course_of : Cells → Dynamics → Counted → Course
course_of start d counted = record { start = start; dynamics = d; counted = counted }

-- the lattice after so many phases
abbrev pub lattice_at : Course → ℕ → Cells
lattice_at course k = after_all course.dynamics course.start k

-- what they come to, in all and in so many rows of tiles from row `first` on
abbrev pub flow_at : Course → ℕ → Flow
flow_at course k = flow_counted course.counted (flow_all course.dynamics course.start k)

abbrev pub rows_give : Course → ℕ → ℕ → ℕ → Flow
rows_give course k first rows =
    let d = course.dynamics in
    let across = course.start.width / 64 in
    flow_counted course.counted (tiles_flow d course.start (first * across) (rows * across) k)

-- A run can be made of these particles by the strips of a lattice of this size.
pub record CanGoOn (whole : Extent) (d : Dynamics) (particles : Cells) : Type 0 where
  pub size : whole ≡ extent particles
  pub lattice : IsLattice particles
  pub parity : d.parity < 2
  pub walls : HasSidesOf d.walls particles
  pub obstacles : HasSidesOf d.obstacles particles

-- n phases were made of the particles, and the answer is what they come to in the accounts that are kept.
pub record HasGoneOn (course : Course) (n : ℕ) (new : Cells) (answer : Flow) : Type 0 where
  pub particles : new ≡ lattice_at course n
  pub flow : answer ≡ flow_at course n

-- nothing acts in the run, and nothing is taken in the accounts that are kept
pub record IsQuiet (course : Course) : Type 0 where
  pub still : (k : ℕ) → IsStill (course.dynamics.leaves k)
  pub untaken : AreOfNone course.counted course.dynamics.walls course.dynamics.obstacles

-- the list has what an action does after each of n phases of a run, from phase `from` on
abbrev pub Lists : List Areas → (ℕ → Leaves) → ℕ → ℕ → Type 0
Lists exchanges leaves from n =
    (k : ℕ) → k < n → (x y : ℕ) (held : Bool) → listed exchanges k x y held ≡ leaves (from + k) x y held

-- the bytes are those of this row of the lattice
pub record AreRowBytes (lattice : Cells) (row : ℕ) (bytes : List ℕ) : Type 0 where
  pub len : length bytes ≡ lattice.width / 8
  pub cell : (x : ℕ) → x < lattice.width → row_has bytes x ≡ has lattice x row

-- row y of the cells is this row of the lattice
pub record HasCellRow (lattice : Cells) (row : ℕ) (cells : Cells) (y : ℕ) : Type 0 where
  pub wide : cells.width ≡ lattice.width
  pub cell : (x : ℕ) → x < lattice.width → has cells x y ≡ has lattice x row

-- a lattice of the same sides, in which every row but row y is as before
pub record AreOtherRowsKept (before : Cells) (y : ℕ) (now : Cells) : Type 0 where
  pub sides : HasSidesOf now before
  pub row : (x z : ℕ) → x < before.width → z < before.height → z ≢ y → has now x z ≡ has before x z

-- a course for a name that names none
abbrev pub no_course : Course
no_course =
    let none = cells_where 0 0 (λ _ _. false) in
    record { start = none; dynamics = record { parity = 0; walls = none; obstacles = none; leaves = λ k x y held. held }; counted = every }
