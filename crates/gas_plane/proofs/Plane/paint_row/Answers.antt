use Rattle.std.proofs.Common.{◌<◌, ◌∙◌, arith}
use Rattle.bit_tile.specs.Tile as tile
use Rattle.gas_terms.specs.Cells.{extent}
use Rattle.gas_plane.proofs.Places.{wide, tile_below}
use Rattle.gas_plane.proofs.Painting.{in_row, painted_lattice, none_painted, same_painted, outside_columns, painted_row_starts, painted_row_ends, row_more, row_more_whole, row_same}
use Rattle.gas_plane.proofs.Plane.paint_row.Goals as goal
use Rattle.gas_plane.proofs.Plane.paint_row.Goals.{then-is_covered, else-is_covered+in-Some, else-is_covered+in_default}

pub loop-column-init : goal.loop-column-init
loop-column-init c =
    none_painted c.args.self.now (in_row c.args.area c.args.row c.tiles_met-first.result.0) c.args.held c.across-across.ensures.lattice.full
    (λ x y _ _. painted_row_starts c.args.area c.args.row c.tiles_met-first.result.0 x y (λ less. outside_columns c.args.area x y (rw (c.x.ensures, c.w.ensures) at (c.tiles_met-first.ensures.before x less))))

pub paint_tile-requires-clause-lattice : goal.paint_tile-requires-clause-lattice
paint_tile-requires-clause-lattice c = painted_lattice c.args.self.now c.loop-column.self (in_row c.args.area c.args.row c.loop-column.column) c.args.held c.across-across.ensures.lattice c.loop-column.invariant

pub loop-column-preserved : goal.loop-column-preserved
loop-column-preserved c =
    let is = c.across-across.ensures.lattice in
    let less : c.loop-column.column < c.across-across.result = omega (arith, c.tiles_met-first.ensures.within) in
    elim c.if-is_covered.branch [
      | then-is_covered w ↦
          row_more_whole c.args.self.now c.loop-column.self c.if-is_covered.self c.args.area c.args.held c.args.row c.loop-column.column c.across-across.result is c.across-across.ensures.across
          less c.loop-column.invariant (c.is_covered.ensures.0 w.if-is_covered.true) (w.self-is ∙ w.paint_whole_tile.ensures)
      | else-is_covered+in-Some w ↦
          row_more c.args.self.now c.loop-column.self c.if-is_covered.self c.args.area c.args.held c.args.row c.loop-column.column c.across-across.result (tile.has w.in-Some.part) is c.across-across.ensures.across
          less c.loop-column.invariant w.in-Some.ensures (w.self-is ∙ w.paint_tile.ensures)
      | else-is_covered+in_default w ↦ w.self-is ∙ row_same c.args.self.now c.loop-column.self c.args.area c.args.held c.args.row c.loop-column.column c.loop-column.invariant w.in_default.ensures
    ]

pub returns : goal.returns
returns c =
    c.loop-column.invariant
    ∙ same_painted c.args.self.now (in_row c.args.area c.args.row c.loop-column.column) _ c.args.held
    (λ x y p q. painted_row_ends c.args.area c.args.row c.loop-column.column x y
    (λ past. outside_columns c.args.area x y (rw (c.x.ensures, c.w.ensures) at (c.tiles_met-first.ensures.after x
    (rw c.across-across.ensures.across (tile_below c.args.self.now.width x (wide (extent c.args.self.now) c.across-across.ensures.lattice.sized) p)) (omega arith)))))
