use Rattle.gas_plane.specs.Tiles.{tiled, tiles_of, Cover}
use Rattle.gas_plane.specs.Turning.{AreTilesTurned}
use Rattle.gas_plane.proofs.turning.turn_rooms.Given as goal

abbrev pub invariant-loop-column : goal.invariant-loop-column
invariant-loop-column g l =
    record {
      covered : Cover (tiles_of l.rooms) l.fn.size;
      turned : AreTilesTurned (g.T.Turner.turns l.fn.turner) l.first l.fn.row l.fn.carried (tiled (tiles_of l.fn.rooms) l.fn.size) l.column l.carried (tiled (tiles_of l.rooms) l.fn.size);
    }
