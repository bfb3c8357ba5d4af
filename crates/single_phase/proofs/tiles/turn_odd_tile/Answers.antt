use Rattle.std.proofs.Common.{ℕ, ◌*◌, ◌%◌, ◌/◌, ◌∙◌, subst, refl, arith}
use Rattle.bit_tile.specs.declared.Tile.{Tile}
use Rattle.gas_terms.specs.Cells.{Cells, tile_rectangle}
use Rattle.gas_plane.specs.Planes.{IsTileFrom}
use Rattle.gas_plane.specs.Tiles.{IsColumnOf}
use Rattle.gas_plane.specs.declared.around.TileRows.{TileRows}
use Rattle.block_rule.specs.Around.{around}
use Rattle.block_rule.specs.declared.Window.{Window}
use Rattle.block_rule.proofs.Torus.{set_turned}
use Rattle.phase_step.specs.SolidBlocks.{view_of}
use Rattle.phase_step.proofs.Sides.{place_is}
use Rattle.phase_step.proofs.SolidBlocks.{given_in_view}
use Rattle.phase_step.proofs.TurnedTiles.{border_near, window_view, window_seen}
use Rattle.single_phase.proofs.tiles.turn_odd_tile.Goals as goal

tile_of_column : (rows : TileRows) (column : ℕ) (cells : Cells) (i : ℕ) (t : Tile) → IsColumnOf rows column cells i → IsTileFrom t cells (column * 64) (i / (cells.width / 64) * 64) → IsTileFrom t cells (i % (cells.width / 64) * 64) (i / (cells.width / 64) * 64)
tile_of_column rows column cells i t at from = subst (λ c. IsTileFrom t cells (c * 64) (i / (cells.width / 64) * 64)) at.place from

pub returns : goal.returns
returns c = λ lattice solid i at sides given x y h k.
    let particles : Window = record { tile = c.tile.result; round = c.round.result } in
    let near = around c.tile.result.now (border_near c.round.result).0 in
    let r = tile_rectangle lattice i in
    let place = place_is lattice solid solid i at.lattice.sized at.within sides sides in
    let view = window_view i lattice lattice particles refl refl place.right place.bottom (record { tile = tile_of_column c.args.rows c.args.column lattice i c.tile.result.now at (c.tile.ensures lattice _ at.rows); round = λ b is. c.round.ensures.ring lattice i b at is }) in
    c.turn_tile_odd.ensures near (view_of solid r.x r.y) (window_seen particles) (given_in_view lattice solid i c.args.walled place given) x y h k
    ∙ set_turned 1 lattice solid r.x r.y near (view_of solid r.x r.y) (omega arith) place view (record { cell = λ _ _ _ _. refl }) x y h k
