-- A closed desk: each tile was drawn once, so the phase is done.
use Rattle.std.proofs.Common.{◌≡◌, ℕ, List, sym, ◌∙◌, arith}
use Rattle.gas_terms.specs.Cells.{Cells, tile_count}
use Rattle.gas_terms.specs.declared.accounts.Took.{Took}
use Rattle.phase_step.specs.Runs.{takings}
use Rattle.phase_step.proofs.Amounts.{sum_from_zero}
use Rattle.phase_step.proofs.FlowSums.{takings_add}
use Rattle.phase_step.proofs.TileFlows.{all_take}
use Rattle.claim_desk.specs.Draws.{times, once_below}
use Rattle.phase_team.specs.Teamwork.{HasTurned, cells_after, taken_in_all}
use Rattle.phase_team.specs.declared.phase.shift.Task.{Task}
use Rattle.phase_team.proofs.NumberSums.{one_below, each_once}
use Rattle.phase_team.proofs.Places.{all_turned}
use Rattle.phase_team.specs.Tiles.{tile_takes}

pub closes : (task : Task) (numbers : List ℕ) (answer : Took) (cells : Cells) → HasTurned task numbers answer cells
    → ((x : ℕ) → times x numbers ≡ once_below (tile_count task.old.now) x) → (cells ≡ cells_after task) × (answer ≡ taken_in_all task)
closes task numbers answer cells done once = (
  all_turned task.parity task.old.now task.walls.now task.obstacles.now cells done.lattice done.sides
      (λ i within. done.turned i within (let one = once i ∙ one_below (tile_count task.old.now) i within in omega (arith, one))),
  done.took
      ∙ (each_once takings takings_add (tile_takes task.parity task.old.now task.walls.now task.obstacles.now) (tile_count task.old.now) numbers once
      ∙ (sym (sum_from_zero takings _ (tile_count task.old.now))
      ∙ all_take task.parity task.old.now task.walls.now task.obstacles.now task.parity_is task.lattice.sized)),
)
