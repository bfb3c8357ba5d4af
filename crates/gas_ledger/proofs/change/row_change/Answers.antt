use Rattle.std.proofs.Common.{◌+◌, ◌*◌, ◌-◌, ◌≤◌, arith, take, drop}
use Rattle.gas_terms.specs.Cells.{Cells, without, extent}
use Rattle.gas_terms.specs.Rows.{row_replaced}
use Rattle.gas_plane.proofs.Places.{wide}
use Rattle.gas_plane.proofs.RowSweeps.{chunk_at}
use Rattle.gas_ledger.proofs.Strips.{IsWordOf, counts_wider, word_without, word_of_row}
use Rattle.gas_ledger.proofs.change.row_change.Goals as goal

pub loop-column-preserved : goal.loop-column-preserved
loop-column-preserved c =
    let cells = c.args.plane.now in
    let y = c.args.y in
    let column = c.loop-column.column in
    let bytes = c.args.bytes.now in
    let after : Cells = row_replaced c.args.plane.now c.args.y c.args.bytes.now in
    let whole = (wide (extent c.args.plane.now) c.across-column-end.ensures.lattice.sized).tiles in
    let inside : c.loop-column.column * 64 + 64 ≤ c.args.plane.now.width = omega (arith, whole, c.across-column-end.ensures.across) in
    let was : IsWordOf c.word-was.result c.args.plane.now c.loop-column.column c.args.y = record { cell = c.word-was.ensures } in
    let is = word_of_row c.word_of-is.result cells y column bytes (take (column * 8 + 8 - column * 8) (drop (column * 8) bytes)) inside c.requires.y c.word_of-is.ensures (chunk_at bytes column) in
    let came = word_without c.word_of-is.result c.word-was.result after cells column y (omega arith) inside c.requires.y is was in
    let went = word_without c.word-was.result c.word_of-is.result cells after column y (omega arith) inside c.requires.y was is in
    record {
      gained = counts_wider c.loop-column.gained c.counts_in_row-came.result c.add_counts-more.result _ (without after cells) column y c.loop-column.invariant.gained came c.counts_in_row-came.ensures.counts c.add_counts-more.ensures;
      lost = counts_wider c.loop-column.lost c.counts_in_row-went.result c.add_counts-less.result _ (without cells after) column y c.loop-column.invariant.lost went c.counts_in_row-went.ensures.counts c.add_counts-less.ensures;
      few_gained = λ k h. omega (arith, c.loop-column.invariant.few_gained k h, c.counts_in_row-came.ensures.bound k, c.add_counts-more.ensures k h);
      few_lost = λ k h. omega (arith, c.loop-column.invariant.few_lost k h, c.counts_in_row-went.ensures.bound k, c.add_counts-less.ensures k h);
    }
