use Rattle.std.proofs.Common.{◌/◌, ◌+◌, ◌==◌, ◌&&◌, ◌∙◌, arith}
use Rattle.gas_terms.specs.Cells.{is_inside, extent}
use Rattle.gas_plane.proofs.Places.{high, tile_below}
use Rattle.gas_plane.proofs.Painting.{in_rows, none_painted, same_painted, painted_more, outside_rows, rows_start, rows_next, rows_end}
use Rattle.gas_plane.proofs.Plane.paint.Goals as goal

pub loop-row-init : goal.loop-row-init
loop-row-init c =
    none_painted c.args.self.now (in_rows c.args.area c.tiles_met-first.result.0) c.args.held c.down.ensures.lattice.full
    (λ x y _ _. rows_start c.args.area c.tiles_met-first.result.0 x y (λ less. outside_rows c.args.area x y (rw (c.y.ensures, c.h.ensures) at (c.tiles_met-first.ensures.before y less))))

pub loop-row-preserved : goal.loop-row-preserved
loop-row-preserved c =
    painted_more c.args.self.now c.loop-row.self c.paint_row.new.self (in_rows c.args.area c.loop-row.row) (λ x y. (y / 64 == c.loop-row.row) && is_inside c.args.area x y) (in_rows c.args.area (c.loop-row.row + 1)) c.args.held
    c.loop-row.invariant c.paint_row.ensures (λ x y p q. rows_next c.args.area c.loop-row.row x y)

pub returns : goal.returns
returns c =
    c.loop-row.invariant
    ∙ same_painted c.args.self.now (in_rows c.args.area c.loop-row.row) (is_inside c.args.area) c.args.held
    (λ x y p q. rows_end c.args.area c.loop-row.row x y
    (λ past. outside_rows c.args.area x y (rw (c.y.ensures, c.h.ensures) at (c.tiles_met-first.ensures.after y
    (rw c.down.ensures.down (tile_below c.args.self.now.height y (high (extent c.args.self.now) c.down.ensures.lattice.sized) q)) (omega arith)))))
