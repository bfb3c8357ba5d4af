use Rattle.std.proofs.Common.{◌+◌, ◌*◌, ap}
use Rattle.phase_step.proofs.RowTiles.{seam_put}
use Rattle.phase_step.proofs.odd_phase.put_seam.Goals as goal

pub returns-clause-put : goal.returns-clause-put
returns-clause-put c =
    let e = c.requires.across in
    seam_put c.args.particles.now c.args.row c.args.below c.args.column _ _ c.args.words.now.own c.tile_mut.result.now c.put_bottom.new.tile c.tile_mut-2.result.now c.put_top.new.tile c.shows_lattice.ensures.sized c.requires.row c.requires.below c.requires.column
    (ap (λ a. c.args.row * a + c.args.column) e) (ap (λ a. c.args.below * a + c.args.column) e) c.tile_mut.ensures.tile c.tile_mut-2.ensures.tile
    c.put_bottom.ensures.row c.put_bottom.ensures.rest c.put_top.ensures.row c.put_top.ensures.rest
