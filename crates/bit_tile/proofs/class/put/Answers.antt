use Rattle.std.proofs.Common.{◌<◌, arith, length}
use Rattle.bit_tile.proofs.Words32.{bit_of_set, bit_of_clear}
use Rattle.bit_tile.proofs.Classes.{cell_set}
use Rattle.bit_tile.proofs.class.put.Goals as goal
use Rattle.bit_tile.proofs.class.put.Goals.{then-held, else-held}

pub returns : goal.returns
returns c = λ k m in_row.
    let within : c.args.j < length c.args.class.now = omega arith in
    cell_set _ c.args.i c.args.j _ c.args.held within
    (λ i i_in_row.
    elim c.if-held.branch [
      | then-held w ↦ rw (w.class-is, w.if-held.true) (bit_of_set _ c.args.i i c.requires.i)
      | else-held w ↦ rw (w.class-is, w.if-held.false) (bit_of_clear _ c.args.i i c.requires.i i_in_row)
    ])
    k m in_row
