use Rattle.gas_plane.proofs.Rooms.{not_kept, tiled_room, covered_room}
use Rattle.gas_plane.proofs.Plane.set_tile.Goals as goal

pub returns : goal.returns
returns c = tiled_room c.self.inside.tiles.items c.self.inside.size c.args.self.now c.args.i (record { before = c.index_mut.result.now.before; tile = c.args.tile; after = c.index_mut.result.now.after }) c.requires c.self.invariant.0 c.self.view_is

pub invariant_of-self : goal.invariant_of-self
invariant_of-self c = (covered_room c.self.inside.tiles.items c.args.i (record { before = c.index_mut.result.now.before; tile = c.args.tile; after = c.index_mut.result.now.after }) c.self.inside.size c.self.invariant.0, not_kept)
