use Rattle.std.proofs.Common.{refl}
use Rattle.gas_plane.proofs.Rooms.{not_kept, room_read, tiled_room, covered_room}
use Rattle.gas_plane.proofs.Tilings.{tile_is}
use Rattle.gas_plane.specs.Tiles.{tiles_of}
use Rattle.gas_plane.proofs.Plane.tile_mut.Goals as goal

pub returns : goal.returns
returns c = (
  (refl, λ w. tiled_room c.self.inside.tiles.items c.self.inside.size c.args.self.now c.args.i (record { before = c.index_mut.result.now.before; tile = w; after = c.index_mut.result.now.after }) c.requires c.self.invariant.0 c.self.view_is),
  record {
    writes_back = tt;
    tile = tile_is (tiles_of c.self.inside.tiles.items) c.self.inside.size c.args.self.now c.args.i c.index_mut.result.now.tile c.self.invariant.0 c.self.view_is c.requires (room_read c.self.inside.tiles.items c.args.i c.index_mut.result.now c.index_mut.ensures.value);
  },
)

pub invariant_of-self-lent : goal.invariant_of-self-lent
invariant_of-self-lent c = λ w. (covered_room c.self.inside.tiles.items c.args.i (record { before = c.index_mut.result.now.before; tile = w; after = c.index_mut.result.now.after }) c.self.inside.size c.self.invariant.0, not_kept)
