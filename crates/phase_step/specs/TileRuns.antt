-- What a run with an action after each phase comes to in some tiles.
use Rattle.std.specs.Prelude.{ℕ, suc, ◌+◌, ℤ, pos}
use Rattle.gas_terms.specs.Cells.{Cells, joined, without, tile_rectangle}
use Rattle.gas_terms.specs.Gas.{streamed}
use Rattle.gas_terms.specs.Accounts.{total_in}
use Rattle.phase_step.specs.Amounts.{sum_first}
use Rattle.phase_step.specs.Runs.{parity_at, tiles_take}
use Rattle.phase_step.specs.Actions.{acted, movements, flows}
use Rattle.phase_step.specs.WholeRuns.{Dynamics, after_all}
use Rattle.gas_terms.specs.declared.accounts.Moved.{Moved}
use Rattle.phase_step.specs.declared.sums.flow.Flow.{Flow}

-- what a change of the particles brings in and takes out in tile i
abbrev pub tile_moves : ℤ → Cells → Cells → ℕ → Moved
tile_moves tick old new i =
    record { injected = total_in tick (without new old) (tile_rectangle old i); drained = total_in tick (without old new) (tile_rectangle old i) }

-- and in n tiles from tile `first` on
abbrev pub tiles_move : ℤ → Cells → Cells → ℕ → ℕ → Moved
tiles_move tick old new first n = sum_first movements (λ i. tile_moves tick old new (first + i)) n

-- what phase k of a run and the action after it come to in those tiles
abbrev pub phase_flow : Dynamics → Cells → ℕ → ℕ → ℕ → Flow
phase_flow d lattice first n k =
    let now = after_all d lattice k in
    let come = streamed (parity_at d.parity k) now (joined d.walls d.obstacles) in
    record {
      took = tiles_take (parity_at d.parity k) now d.walls d.obstacles first n;
      moved = tiles_move (pos (parity_at d.parity (suc k))) come (acted (d.leaves k) come) first n;
    }

-- and so many phases
abbrev pub tiles_flow : Dynamics → Cells → ℕ → ℕ → ℕ → Flow
tiles_flow d lattice first n k = sum_first flows (phase_flow d lattice first n) k
