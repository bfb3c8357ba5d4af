use Rattle.std.proofs.Common.{◌-◌, ◌*◌, ◌/◌, length, take, drop, List, subst, sym}
use Rattle.gas_plane.specs.Tiles.{AreTilesInRow}
use Rattle.gas_plane.specs.declared.aligned_tile.AlignedTile.{AlignedTile}
use Rattle.gas_plane.proofs.Rooms.{row_read}
use Rattle.gas_plane.proofs.Plane.rooms_from.Goals as goal

pub returns-clause-tiles : goal.returns-clause-tiles
returns-clause-tiles c =
    let start = c.args.row * (c.width.result / 64) in
    subst (λ (rooms : List AlignedTile). AreTilesInRow (take (length rooms - start) (drop start rooms)) c.args.self.now c.args.row) (sym c.deref.ensures.value)
    (row_read c.self.inside.tiles.items c.self.inside.size c.args.self.now c.args.row c.width.result c.self.invariant.0 c.self.view_is c.requires c.width.ensures)
