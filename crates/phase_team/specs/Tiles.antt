use Rattle.std.specs.Prelude.{◌≡◌, ℕ, ◌+◌, ◌<◌, List, pos}
use Rattle.gas_terms.specs.Cells.{Cells, has, joined, tile_rectangle}
use Rattle.gas_terms.specs.Gas.{streamed}
use Rattle.gas_terms.specs.declared.accounts.Took.{Took}
use Rattle.block_rule.specs.Windows.{taken_in}
use Rattle.phase_step.specs.Amounts.{sum_each}
use Rattle.phase_step.specs.Runs.{takings}

-- tile i of the set of cells is as it is after the phase of parity p of the particles
abbrev pub IsTurnedAt : ℕ → Cells → Cells → Cells → Cells → ℕ → Type 0
IsTurnedAt p particles walls obstacles cells i =
    (x y : ℕ) → x < 64 → y < 64 →
    has cells ((tile_rectangle particles i).x + x) ((tile_rectangle particles i).y + y)
    ≡ has (streamed p particles (joined walls obstacles)) ((tile_rectangle particles i).x + x) ((tile_rectangle particles i).y + y)

-- what walls and obstacles take in tile i
abbrev pub tile_takes : ℕ → Cells → Cells → Cells → ℕ → Took
tile_takes p particles walls obstacles i = taken_in (pos p) particles walls obstacles (tile_rectangle particles i)

-- what they take in the tiles of these numbers
abbrev pub numbered_tiles_take : ℕ → Cells → Cells → Cells → List ℕ → Took
numbered_tiles_take p particles walls obstacles numbers = sum_each takings (tile_takes p particles walls obstacles) numbers
