use Rattle.std.proofs.Common.{◌<◌, ◌≤◌, ◌+◌, ◌*◌, ◌/◌, ◌∙◌, ℕ, sym, arith, get_or}
use Rattle.std.proofs.lemmas.Nat.{mul-le}
use Rattle.bit_tile.proofs.Bits.{get_or-replicate_zero}
use Rattle.gas_terms.specs.Cells.{extent}
use Rattle.gas_plane.proofs.Places.{wide, high, tile_below}
use Rattle.gas_plane.proofs.Painting.{outside_columns, outside_rows}
use Rattle.gas_plane.proofs.PlaneCounts.{counts_start, counts_end, count_more, tile_counts, class_place, row_begins, row_closes, above_rows, below_rows, rows_within, small_row, small_column, small_next}
use Rattle.gas_plane.proofs.Plane.counts_in.Goals as goal

pub loop-row-init : goal.loop-row-init
loop-row-init c =
    record {
      so_far = λ a b p q.
          get_or-replicate_zero 4 (2 * b + a)
          ∙ sym (counts_start c.args.self.now c.args.area a b (c.tiles_met-top.result.0 * (c.args.self.now.width / 64)) c.across-across.ensures.lattice
          (λ x y h. outside_rows c.args.area x y (rw (c.y.ensures, c.h.ensures) at (c.tiles_met-top.ensures.before y (above_rows c.args.self.now c.tiles_met-top.result.0 x y h)))));
      small = λ k h. omega (arith, get_or-replicate_zero 4 k);
    }

pub loop-column-init : goal.loop-column-init
loop-column-init c =
    let within : c.tiles_met-left.result.0 ≤ c.args.self.now.width / 64 = omega (arith, c.tiles_met-left.ensures.ordered, c.tiles_met-left.ensures.within, c.across-across.ensures.across) in
    record {
      so_far = λ a b p q.
          c.loop-row.invariant.so_far a b p q
          ∙ row_begins c.args.self.now c.args.area a b c.loop-row.row c.tiles_met-left.result.0 within
          (λ x y h. outside_columns c.args.area x y (rw (c.x.ensures, c.w.ensures) at (c.tiles_met-left.ensures.before x h)));
      small = λ k h. small_column (c.args.self.now.width / 64) c.loop-row.row c.tiles_met-left.result.0 (get_or c.loop-row.counts k 0) (c.loop-row.invariant.small k h);
    }

pub loop-column-preserved : goal.loop-column-preserved
loop-column-preserved c =
    let cells = c.args.self.now in
    let row = c.loop-row.row in
    let column = c.loop-column.column in
    let less : c.loop-column.column < c.across-across.result = omega (arith, c.tiles_met-left.ensures.within) in
    let within : c.loop-column.column < c.args.self.now.width / 64 = omega (arith, c.across-across.ensures.across) in
    let next = λ (k : ℕ) (h : k < 4). c.add_counts-more.ensures k h in
    record {
      so_far = λ a b p q.
          count_more cells c.args.area a b row column c.across-across.result (get_or c.loop-column.counts (2 * b + a) 0) (get_or c.counts_of-here.result (2 * b + a) 0) (get_or c.add_counts-more.result (2 * b + a) 0) c.across-across.ensures.across (c.loop-column.invariant.so_far a b p q)
          (c.counts_of-here.ensures.counts a b p q ∙ tile_counts cells c.args.area a b row column c.across-across.result c.tile-tile.result.now c.across-across.ensures.across less c.tile-tile.ensures)
          (next (2 * b + a) (class_place a b p q));
      small = λ k h. small_next (row * (c.args.self.now.width / 64)) column (get_or c.loop-column.counts k 0) (get_or c.counts_of-here.result k 0) (get_or c.add_counts-more.result k 0) (next k h) (c.loop-column.invariant.small k h) (c.counts_of-here.ensures.bound k);
    }

pub loop-row-preserved : goal.loop-row-preserved
loop-row-preserved c =
    let within : c.loop-column.column ≤ c.args.self.now.width / 64 = omega (arith, c.loop-column.auto.column-end c.tiles_met-left.ensures.ordered, c.tiles_met-left.ensures.within, c.across-across.ensures.across) in
    record {
      so_far = λ a b p q.
          c.loop-column.invariant.so_far a b p q
          ∙ row_closes c.args.self.now c.args.area a b c.loop-row.row c.loop-column.column within
          (λ x y p h. outside_columns c.args.area x y (rw (c.x.ensures, c.w.ensures) at (c.tiles_met-left.ensures.after x (rw c.across-across.ensures.across p) (omega arith))));
      small = λ k h. small_row (c.args.self.now.width / 64) c.loop-row.row c.loop-column.column (get_or c.loop-column.counts k 0) within (c.loop-column.invariant.small k h);
    }

pub returns : goal.returns
returns c = λ a b p q.
    let cells = c.args.self.now in
    let is = c.across-across.ensures.lattice in
    let row : c.loop-row.row ≤ c.args.self.now.height / 64 = omega (arith, c.loop-row.auto.row-end c.tiles_met-top.ensures.ordered, c.tiles_met-top.ensures.within, c.down.ensures.down) in
    c.loop-row.invariant.so_far a b p q
    ∙ counts_end cells c.args.area a b (c.loop-row.row * (c.args.self.now.width / 64)) (c.tiles_met-top.result.1 * (c.args.self.now.width / 64)) is c.requires
    (mul-le c.tiles_met-top.result.1 (c.args.self.now.width / 64) c.loop-row.row (c.args.self.now.width / 64) c.loop-row-test.false (omega arith)) (rows_within cells c.loop-row.row row)
    (λ x y p q h. outside_rows c.args.area x y (rw (c.y.ensures, c.h.ensures) at (c.tiles_met-top.ensures.after y (rw c.down.ensures.down (tile_below c.args.self.now.height y (high (extent c.args.self.now) is.sized) q))
    (below_rows cells c.tiles_met-top.result.1 x y (tile_below c.args.self.now.width x (wide (extent c.args.self.now) is.sized) p) h))))
