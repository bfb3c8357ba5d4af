use Rattle.std.proofs.Common.{◌∙◌, ap, sym, true, false}
use Rattle.gas_plane.specs.Planes.{with_tile}
use Rattle.gas_plane.proofs.Painting.{tile_painted, put_in, taken_out, painted_as}
use Rattle.gas_plane.proofs.Plane.paint_tile.Goals as goal
use Rattle.gas_plane.proofs.Plane.paint_tile.Goals.{then-held, else-held}

pub returns : goal.returns
returns c =
    c.set_tile.ensures
    ∙ elim c.if-held.branch [
      | then-held w ↦
          ap (with_tile c.args.self.now c.args.i) w.tile-is
          ∙ (tile_painted c.args.self.now c.args.i c.tile.result.now c.args.part.now w.join.new.self true c.requires.lattice c.tile.ensures
          (put_in c.tile.result.now c.args.part.now w.join.new.self w.join.ensures)
          ∙ painted_as c.args.self.now c.args.i c.args.part.now true c.args.held (sym w.if-held.true))
      | else-held w ↦
          ap (with_tile c.args.self.now c.args.i) w.tile-is
          ∙ (tile_painted c.args.self.now c.args.i c.tile.result.now c.args.part.now w.cut.new.self false c.requires.lattice c.tile.ensures
          (taken_out c.tile.result.now c.args.part.now w.cut.new.self w.cut.ensures)
          ∙ painted_as c.args.self.now c.args.i c.args.part.now false c.args.held (sym w.if-held.false))
    ]
