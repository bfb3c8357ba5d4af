use Rattle.std.proofs.Common.{arith}
use Rattle.block_rule.specs.TileBlocks.{walled_by}
use Rattle.block_rule.proofs.Holding.{turned_of_free}
use Rattle.block_rule.proofs.NamedBlocks.{words_given, nothing_given}
use Rattle.block_rule.proofs.tile_phase.turn_tile_even.Goals as goal

pub returns-in-None : goal.returns-in-None
returns-in-None c = λ window solid shows given.
    turned_of_free 0 c.make_even.new.tile window solid (nothing_given c.args.walled (walled_by solid) c.in-None.is given 0 (omega arith)) (c.make_even.ensures window shows)

pub returns-in-Some : goal.returns-in-Some
returns-in-Some c = λ window solid shows given.
    let named = words_given c.args.walled c.in-Some.set (walled_by solid) c.in-Some.is given in
    c.collide_even.ensures window solid shows named.even (named.rows 0 (omega arith))
