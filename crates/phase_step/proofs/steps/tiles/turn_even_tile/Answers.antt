use Rattle.std.proofs.Common.{refl, ◌∙◌, arith}
use Rattle.gas_terms.specs.Cells.{tile_rectangle}
use Rattle.block_rule.specs.Around.{around}
use Rattle.block_rule.proofs.Borders.{shows_tile}
use Rattle.block_rule.proofs.Torus.{inside_is_view, set_turned}
use Rattle.phase_step.specs.SolidBlocks.{view_of}
use Rattle.phase_step.proofs.Sides.{place_is}
use Rattle.phase_step.proofs.SolidBlocks.{given_in_view}
use Rattle.phase_step.proofs.TurnedTiles.{any_border}
use Rattle.phase_step.proofs.steps.tiles.turn_even_tile.Goals as goal

pub returns : goal.returns
returns c = λ lattice solid i sized within sides given from x y h k.
    let t = c.args.tile.now in
    let near = around t any_border in
    let r = tile_rectangle lattice i in
    let place = place_is lattice solid solid i sized within sides sides in
    c.turn_tile_even.ensures near (view_of solid r.x r.y) (shows_tile t any_border) (given_in_view lattice solid i c.args.walled place given) x y h k
    ∙ set_turned 0 lattice solid r.x r.y near (view_of solid r.x r.y) (omega arith) place (inside_is_view t any_border lattice r.x r.y place.right place.bottom from.cell) (record { cell = λ _ _ _ _. refl }) x y h k
