use Rattle.block_rule.specs.Around.{is_walled_at}
use Rattle.block_rule.proofs.NamedBlocks.{end_first, begin_first, end_last, begin_last, counted_among}
use Rattle.block_rule.proofs.tile_phase.momentum_odd.Goals as goal

pub returns-clause-is : goal.returns-clause-is
returns-clause-is c = λ window are.
    let b = c.args.words.now in
    let ee = c.first_words.result.now in
    let oe = c.first_words-2.result.now in
    let eo = c.last_words.result.now in
    let oo = c.last_words-2.result.now in
    c.momentum.ensures.is _
    (counted_among c.args.tile.now ee oe eo oo (is_walled_at 1 window) _ _ _ _ (end_first b window are ee c.first_words.ensures) (begin_first b window are oe c.first_words-2.ensures) (end_last b window are eo c.last_words.ensures) (begin_last b window are oo c.last_words-2.ensures)
    c.count_class.ensures.count c.count_class-2.ensures.count c.count_class-3.ensures.count c.count_class-4.ensures.count)
