use Rattle.std.proofs.Common.{◌*◌, arith}
use Rattle.block_rule.specs.Around.{is_walled_at}
use Rattle.block_rule.specs.Cell.{turned_cell}
use Rattle.block_rule.proofs.EvenRows.{rows_after}
use Rattle.block_rule.proofs.Holding.{turned_of_spared}
use Rattle.block_rule.proofs.Windows.{even_cells}
use Rattle.block_rule.proofs.collide_even.collide_even.Goals as goal

pub returns : goal.returns
returns g c = λ window solid shows named row_pairs.
    let old = c.args.tile.now in
    let first = c.collide_eight.ensures solid named row_pairs in
    let second = rows_after 0 8 16 solid old _ _ first (c.collide_eight-2.ensures solid named row_pairs) (omega arith) (omega arith) in
    let third = rows_after 0 16 24 solid old _ _ second (c.collide_eight-3.ensures solid named row_pairs) (omega arith) (omega arith) in
    let all = rows_after 0 24 32 solid old _ _ third (c.collide_eight-4.ensures solid named row_pairs) (omega arith) (omega arith) in
    turned_of_spared window solid c.collide_eight-4.new.tile
    (even_cells (λ k i. turned_cell (is_walled_at 0 solid (2 * i) (2 * k))) window old c.collide_eight-4.new.tile shows (λ k h. all.done k (omega arith) h))
