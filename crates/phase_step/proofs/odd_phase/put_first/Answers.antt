use Rattle.std.proofs.Common.{◌*◌, ap}
use Rattle.phase_step.proofs.RowTiles.{first_put}
use Rattle.phase_step.proofs.odd_phase.put_first.Goals as goal

pub returns : goal.returns
returns c =
    first_put c.args.particles.now c.args.row _ c.tile_mut.result.now c.put_first_column.new.tile c.args.carry.now c.shows_lattice.ensures.sized c.requires.row (ap (λ a. c.args.row * a) c.requires.across) c.tile_mut.ensures.tile
    c.put_first_column.ensures.column c.put_first_column.ensures.others
