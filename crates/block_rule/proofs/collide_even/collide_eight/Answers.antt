use Rattle.std.proofs.Common.{◌+◌, ◌∙◌, ap, sym, arith}
use Rattle.bit_tile.specs.Bit.{bit}
use Rattle.block_rule.specs.Rows.{even_row, eight_row}
use Rattle.block_rule.proofs.EvenRows.{made_alike, free_words, rows_written}
use Rattle.block_rule.proofs.collide_even.collide_eight.Goals as goal
use Rattle.block_rule.proofs.collide_even.collide_eight.Goals.{then-bits_from-eq0, else-bits_from-eq0}

pub returns : goal.returns
returns g c = λ solid named row_pairs.
    let from = c.args.from in
    let old = c.args.tile.now in
    rows_written from solid c.if-bits_from-eq0.rows old c.write_eight.new.out
    (λ k few.
    elim c.if-bits_from-eq0.branch [
      | then-bits_from-eq0 v ↦
          rw v.rows-is
          (made_alike (bit 0) _ (even_row old (from + k)) (eight_row v.collided_eight-rows.result k)
          (λ i h. free_words (g.W.Walled.row_pairs c.args.walled) (from + k) i solid (omega arith) h (ap (λ rows. bit rows (from + k)) (sym c.rows.ensures) ∙ c.bits_from.ensures v.if-bits_from-eq0.true (from + k) (omega arith) (omega arith)) row_pairs)
          (v.collided_eight-rows.ensures k few))
      | else-bits_from-eq0 v ↦
          rw v.rows-is
          (made_alike (bit (g.W.Walled.evens c.args.walled (from + k))) _ (even_row old (from + k)) (eight_row v.collided_eight-rows-else-bits_from-eq0.result k) (λ i h. named i (from + k) h (omega arith))
          (v.collided_eight-rows-else-bits_from-eq0.ensures k few))
    ])
    c.write_eight.ensures.rows c.write_eight.ensures.rest
