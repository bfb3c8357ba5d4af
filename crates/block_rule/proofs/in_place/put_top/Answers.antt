use Rattle.std.proofs.Common.{refl, arith, get_or-set_same}
use Rattle.block_rule.proofs.InPlace.{top_rest, even_row_of}
use Rattle.block_rule.proofs.in_place.put_top.Goals as goal

pub returns-clause-row : goal.returns-clause-row
returns-clause-row c = λ test is.
    let t = c.args.tile.now in
    let row = c.args.row.now in
    even_row_of _ (λ x. test x 64) 0 row.lower_left row.lower_right refl (get_or-set_same t.odd_even 0 row.lower_left 0 (omega arith)) (get_or-set_same t.even_even 0 row.lower_right 0 (omega arith)) is.lower_left is.lower_right

pub returns-clause-rest : goal.returns-clause-rest
returns-clause-rest c = let row = c.args.row.now in top_rest c.args.tile.now row.lower_left row.lower_right
