use Rattle.gas_plane.proofs.Rooms.{room_read}
use Rattle.gas_plane.proofs.Tilings.{tile_is}
use Rattle.gas_plane.specs.Tiles.{tiles_of}
use Rattle.gas_plane.proofs.Plane.tile.Goals as goal

pub returns : goal.returns
returns c = tile_is (tiles_of c.self.inside.tiles.items) c.self.inside.size c.args.self.now c.args.i c.index.result.now.tile c.self.invariant.0 c.self.view_is c.requires (room_read c.self.inside.tiles.items c.args.i c.index.result.now c.index.ensures)
