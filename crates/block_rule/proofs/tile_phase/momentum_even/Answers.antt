use Rattle.std.proofs.Common.{arith}
use Rattle.block_rule.specs.Around.{is_walled_at}
use Rattle.block_rule.proofs.NamedBlocks.{even_class, counted_among}
use Rattle.block_rule.proofs.tile_phase.momentum_even.Goals as goal

pub returns-clause-is : goal.returns-clause-is
returns-clause-is c = λ window are.
    let w = c.args.words.now in
    let is = even_class w window are in
    c.momentum.ensures.is _
    (counted_among c.args.tile.now w w w w (is_walled_at 0 window) _ _ _ _ (is 0 0 (omega arith) (omega arith)) (is 1 0 (omega arith) (omega arith)) (is 0 1 (omega arith) (omega arith)) (is 1 1 (omega arith) (omega arith))
    c.count_class.ensures.count c.count_class-2.ensures.count c.count_class-3.ensures.count c.count_class-4.ensures.count)
