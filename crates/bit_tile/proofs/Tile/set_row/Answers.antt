use Rattle.std.proofs.Common.{ℕ, ◌*◌, ◌∙◌, ap, arith}
use Rattle.bit_tile.specs.Bit.{bit}
use Rattle.bit_tile.specs.Tile.{has}
use Rattle.bit_tile.proofs.Bits.{bit-shr}
use Rattle.bit_tile.proofs.Classes.{by_class, is_even_even, is_odd_even, is_even_odd, is_odd_odd}
use Rattle.bit_tile.proofs.Rows.{row_set, row_kept}
use Rattle.bit_tile.proofs.Tile.set_row.Goals as goal

pub returns-then-y-eq0 : goal.returns-then-y-eq0
returns-then-y-eq0 c =
    let t = c.args.self.now in
    let y : ℕ = c.args.y in
    let word : ℕ = c.args.word in
    by_class _ _ (row_set t.even_even 0 0 y _ word (has t) (omega arith) (omega arith) (λ i h. c.gather-even.ensures i h ∙ ap (bit word) (omega arith)) (is_even_even t))
    (row_set t.odd_even 1 0 y _ word (has t) (omega arith) (omega arith) (λ i h. c.gather-odd.ensures i h ∙ (bit-shr word 1 (2 * i) ∙ ap (bit word) (omega arith))) (is_odd_even t))
    (row_kept t.even_odd 0 1 y word (has t) (omega arith) (λ e. omega arith) (is_even_odd t))
    (row_kept t.odd_odd 1 1 y word (has t) (omega arith) (λ e. omega arith) (is_odd_odd t))

pub returns-else-y-eq0 : goal.returns-else-y-eq0
returns-else-y-eq0 c =
    let t = c.args.self.now in
    let y : ℕ = c.args.y in
    let word : ℕ = c.args.word in
    by_class _ _ (row_kept t.even_even 0 0 y word (has t) (omega arith) (λ e. omega arith) (is_even_even t))
    (row_kept t.odd_even 1 0 y word (has t) (omega arith) (λ e. omega arith) (is_odd_even t))
    (row_set t.even_odd 0 1 y _ word (has t) (omega arith) (omega arith) (λ i h. c.gather-even.ensures i h ∙ ap (bit word) (omega arith)) (is_even_odd t))
    (row_set t.odd_odd 1 1 y _ word (has t) (omega arith) (omega arith) (λ i h. c.gather-odd.ensures i h ∙ (bit-shr word 1 (2 * i) ∙ ap (bit word) (omega arith))) (is_odd_odd t))
