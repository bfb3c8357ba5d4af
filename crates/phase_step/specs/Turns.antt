use Rattle.std.specs.Prelude.{ℕ, ◌+◌}
use Rattle.bit_tile.specs.Tile.{HasCells}
use Rattle.bit_tile.specs.declared.Tile.{Tile}
use Rattle.gas_terms.specs.Cells.{Cells, has, tile_rectangle}
use Rattle.gas_terms.specs.Gas.{streamed}
use Rattle.tile_border.specs.Ring.{IsBorderOfRound}
use Rattle.tile_border.specs.declared.border.Border.{Border}
use Rattle.gas_plane.specs.Planes.{IsTileFrom, IsRingRound}
use Rattle.block_rule.specs.Windows.{IsTilePlace}
use Rattle.block_rule.specs.declared.Window.{Window}

-- the tile has what stands in tile i after the phase of parity p of the particles
abbrev pub IsTileAfter : ℕ → Cells → Cells → ℕ → Tile → Type 0
IsTileAfter p particles solid i t =
    HasCells t (λ x y. has (streamed p particles solid) ((tile_rectangle particles i).x + x) ((tile_rectangle particles i).y + y))

-- the window is a tile that has the set's cells from the place (x0, y0) on, and eight tiles with those round it on the torus
pub record IsWindowFrom (w : Window) (cells : Cells) (x0 y0 : ℕ) : Type 0 where
  pub tile : IsTileFrom w.tile.now cells x0 y0
  pub round : (b : Border) → IsBorderOfRound b w.round → IsRingRound b cells x0 y0

-- tile i of the particles is a place of the torus that they share with walls and obstacles
abbrev pub IsPlaceOf : Cells → Cells → Cells → ℕ → Type 0
IsPlaceOf particles walls obstacles i =
    let r = tile_rectangle particles i in IsTilePlace particles walls obstacles r.x r.y
