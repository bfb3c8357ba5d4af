use Rattle.std.proofs.Common.{◌≡◌, ◌%◌, ◌∙◌, ap, sym, refl, pos, arith}
use Rattle.gas_terms.specs.Cells.{tile_rectangle}
use Rattle.block_rule.specs.Accounts.{counted_of}
use Rattle.block_rule.specs.Around.{taken_in_tile}
use Rattle.block_rule.proofs.TorusTook.{tiles_took}
use Rattle.phase_step.specs.SolidBlocks.{view_of}
use Rattle.phase_step.proofs.Sides.{place_is}
use Rattle.phase_step.proofs.SolidBlocks.{given_in_view, given_in_both}
use Rattle.phase_step.proofs.steps.tiles.count_tile.Goals as goal

pub returns : goal.returns
returns c = λ lattice w o i is within of_walls of_obstacles solids from.
    let t = c.args.tile.now in
    let p = c.args.parity in
    let r = tile_rectangle lattice i in
    let place = place_is lattice w o i is.sized within of_walls of_obstacles in
    let same : p % 2 ≡ p = omega arith in
    c.taken_among.ensures (view_of w r.x r.y) (view_of o r.x r.y) (given_in_both lattice w o i c.args.tile_solids.all place solids.of_all) (given_in_view lattice o i c.args.tile_solids.obstacles (place_is lattice o o i is.sized within of_obstacles of_obstacles) solids.of_obstacles)
    ∙ ap (counted_of c.args.counted)
    (ap (λ q. taken_in_tile q t (view_of w r.x r.y) (view_of o r.x r.y)) (sym same)
    ∙ tiles_took (pos p) t lattice w o r.x r.y (view_of w r.x r.y) (view_of o r.x r.y) place from.cell (record { cell = λ _ _ _ _. refl }) (record { cell = λ _ _ _ _. refl }))
