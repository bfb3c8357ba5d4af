-- Actions on the particles after the phases of a run, and what such a run comes to.
use Rattle.std.specs.Prelude.{◌≡◌, ℕ, zero, suc, ◌+◌, ◌%◌, ◌<◌, Bool, pos}
use Rattle.bit_tile.specs.Tile as tile
use Rattle.bit_tile.specs.Tile.{HasCells}
use Rattle.bit_tile.specs.declared.Tile.{Tile}
use Rattle.gas_terms.specs.Cells.{Cells, has, cells_where, joined, most_side}
use Rattle.gas_terms.specs.Gas.{streamed}
use Rattle.gas_terms.specs.Accounts.{taken, took_plus, pair_plus, TakenFits, SumsFit, plus, moved_by, moved_plus}
use Rattle.gas_terms.specs.Accounts as accounts
use Rattle.gas_terms.specs.declared.accounts.Moved.{Moved}
use Rattle.phase_step.specs.Amounts.{Amounts, sum_first}
use Rattle.phase_step.specs.Runs.{parity_at, nothing_taken}
use Rattle.phase_step.specs.declared.sums.flow.Flow.{Flow}

-- what an action leaves of the cell (x, y), by whether it is held
abbrev pub Leaves : Type 0
Leaves = ℕ → ℕ → Bool → Bool

-- the greatest number that a phase may have
abbrev pub last_phase : ℕ
last_phase = 65535

-- it leaves every cell as it is
abbrev pub IsStill : Leaves → Type 0
IsStill leaves = (x y : ℕ) (held : Bool) → leaves x y held ≡ held

-- a place where a tile of a lattice begins
pub record IsTileCorner (left top : ℕ) : Type 0 where
  pub column : left % 64 ≡ 0
  pub row : top % 64 ≡ 0
  pub right : left < most_side
  pub bottom : top < most_side

-- the tile has what is left of the other's cells, which begin at the place (left, top)
abbrev pub IsLeftOf : Leaves → ℕ → ℕ → Tile → Tile → Type 0
IsLeftOf leaves left top old new = HasCells new (λ x y. leaves (left + x) (top + y) (tile.has old x y))

-- the cells after an action
abbrev pub acted : Leaves → Cells → Cells
acted leaves cells = cells_where cells.width cells.height (λ x y. leaves x y (has cells x y))

-- nothing that comes in or goes out, and how changes add up
abbrev pub unmoved : Moved
unmoved = record { injected = accounts.nothing; drained = accounts.nothing }

abbrev pub movements : Amounts Moved
movements = record { none = unmoved; plus = moved_plus }

-- nothing of either, and how flows add up
abbrev pub no_flow : Flow
no_flow = record { took = nothing_taken; moved = unmoved }

abbrev pub flow_plus : Flow → Flow → Flow
flow_plus a b = record { took = took_plus a.took b.took; moved = moved_plus a.moved b.moved }

abbrev pub flows : Amounts Flow
flows = record { none = no_flow; plus = flow_plus }

-- the particles after so many phases, after each of which there was an action: after phase k the one of k
abbrev pub after_with : ℕ → Cells → (ℕ → Leaves) → Cells → ℕ → Cells
after_with p solid leaves particles zero = particles
after_with p solid leaves particles (suc k) = acted (leaves k) (streamed (parity_at p k) (after_with p solid leaves particles k) solid)

-- what phase k comes to, and the action after it, which acts at the next tick
abbrev pub phase_with : ℕ → Cells → Cells → (ℕ → Leaves) → Cells → ℕ → Flow
phase_with p walls obstacles leaves particles k =
    let solid = joined walls obstacles in
    let now = after_with p solid leaves particles k in
    let come = streamed (parity_at p k) now solid in
    record { took = taken (parity_at p k) now walls obstacles; moved = moved_by (pos (parity_at p (suc k))) come (acted (leaves k) come) }

-- and so many phases
abbrev pub flow_with : ℕ → Cells → Cells → (ℕ → Leaves) → Cells → ℕ → Flow
flow_with p walls obstacles leaves particles n = sum_first flows (phase_with p walls obstacles leaves particles) n

-- each number of two flows together fits an i64
pub record FlowsFit (a b : Flow) : Type 0 where
  pub walls : TakenFits (pair_plus a.took.walls b.took.walls)
  pub obstacles : TakenFits (pair_plus a.took.obstacles b.took.obstacles)
  pub injected : SumsFit (plus a.moved.injected b.moved.injected)
  pub drained : SumsFit (plus a.moved.drained b.moved.drained)
