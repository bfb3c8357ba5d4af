-- Runs of a whole lattice: what they need, and what they make.
use Rattle.std.specs.Prelude.{◌≡◌, ℕ, ◌<◌, true}
use Rattle.gas_terms.specs.Cells.{Cells, HasSidesOf, joined}
use Rattle.block_rule.specs.declared.walled.Counted.{Counted}
use Rattle.phase_step.specs.Actions.{Leaves, after_with, flow_with}
use Rattle.phase_step.specs.Balance.{flow_counted}
use Rattle.phase_step.specs.declared.steps.solids.Solids.{Solids}
use Rattle.phase_step.specs.declared.sums.flow.Flow.{Flow}

-- By these a lattice goes on: the parity of the first phase, walls, obstacles, and what an action leaves after each phase.
pub record Dynamics : Type 0 where
  pub parity : ℕ
  pub walls : Cells
  pub obstacles : Cells
  pub leaves : ℕ → Leaves

abbrev pub dynamics : ℕ → Solids → (ℕ → Leaves) → Dynamics
dynamics parity solids leaves = record { parity = parity; walls = solids.walls; obstacles = solids.obstacles; leaves = leaves }

-- the lattice n phases later, and what they come to
abbrev pub after_all : Dynamics → Cells → ℕ → Cells
after_all d lattice n = after_with d.parity (joined d.walls d.obstacles) d.leaves lattice n

abbrev pub flow_all : Dynamics → Cells → ℕ → Flow
flow_all d lattice n = flow_with d.parity d.walls d.obstacles d.leaves lattice n

-- both accounts are kept
abbrev pub every : Counted
every = record { walls = true; obstacles = true }

-- A run can be made of the particles: all is of one size.
pub record CanRun (d : Dynamics) (particles : Cells) : Type 0 where
  pub parity : d.parity < 2
  pub walls : HasSidesOf d.walls particles
  pub obstacles : HasSidesOf d.obstacles particles

-- n phases were made, and the answer is what they come to in the accounts that are kept.
pub record HasRunWhole (counted : Counted) (d : Dynamics) (n : ℕ) (old new : Cells) (answer : Flow) : Type 0 where
  pub particles : new ≡ after_all d old n
  pub flow : answer ≡ flow_counted counted (flow_all d old n)
