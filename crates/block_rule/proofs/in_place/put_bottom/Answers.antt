use Rattle.std.proofs.Common.{refl, arith, get_or-set_same}
use Rattle.block_rule.proofs.InPlace.{bottom_rest, odd_row_of}
use Rattle.block_rule.proofs.in_place.put_bottom.Goals as goal

pub returns-clause-row : goal.returns-clause-row
returns-clause-row c = λ test is.
    let t = c.args.tile.now in
    let row = c.args.row.now in
    odd_row_of _ (λ x. test x 63) 63 row.upper_left row.upper_right refl (get_or-set_same t.odd_odd 31 row.upper_left 0 (omega arith)) (get_or-set_same t.even_odd 31 row.upper_right 0 (omega arith)) is.upper_left is.upper_right

pub returns-clause-rest : goal.returns-clause-rest
returns-clause-rest c = let row = c.args.row.now in bottom_rest c.args.tile.now row.upper_left row.upper_right
