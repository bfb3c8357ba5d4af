use Rattle.std.proofs.Common.{◌+◌, arith, length-set, subst}
use Rattle.bit_tile.specs.Bit.{bit}
use Rattle.block_rule.specs.Cell.{turned_cell}
use Rattle.block_rule.specs.Rows.{IsMade, even_row}
use Rattle.block_rule.proofs.Windows.{eight_more}
use Rattle.block_rule.proofs.collide_even.collided_eight.Goals as goal

pub loop-k-preserved : goal.loop-k-preserved
loop-k-preserved g c =
    let evens = g.W.Walled.evens c.args.walled in
    let tile = c.args.tile.now in
    let made = c.collided-new in
    record {
      ul = simp length-set c.loop-k.invariant.ul;
      ur = simp length-set c.loop-k.invariant.ur;
      ll = simp length-set c.loop-k.invariant.ll;
      lr = simp length-set c.loop-k.invariant.lr;
      done =
          eight_more (λ m. IsMade (λ i. turned_cell (bit (evens (c.args.from + m)) i)) (even_row tile (c.args.from + m))) c.loop-k.rows made.result c.loop-k.k (omega arith) (omega arith) (omega arith) (omega arith)
          c.loop-k.invariant.done (subst (λ w. IsMade (λ i. turned_cell (bit w i)) (even_row tile (c.args.from + c.loop-k.k)) made.result) c.even-kept.ensures made.ensures);
    }
