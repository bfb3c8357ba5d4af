use Rattle.gas_plane.proofs.Sweeps.{sweep_begins, sweep_tile, sweep_is_whole}
use Rattle.gas_plane.proofs.laws.tiles_are_swept.Goals as goal

pub returns : goal.returns
returns c = record { starts = sweep_begins; next = sweep_tile; ends = sweep_is_whole }
