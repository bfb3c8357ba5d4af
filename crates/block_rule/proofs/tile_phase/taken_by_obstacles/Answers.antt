use Rattle.block_rule.specs.Around.{is_walled_at}
use Rattle.block_rule.specs.TileBlocks.{walled_by}
use Rattle.block_rule.proofs.Holding.{none_took, is_counted}
use Rattle.block_rule.proofs.NamedBlocks.{words_given, nothing_given}
use Rattle.block_rule.proofs.tile_phase.taken_by_obstacles.Goals as goal

pub returns-in-Some : goal.returns-in-Some
returns-in-Some c = λ obstructed is. is_counted c.args.counted _ _ c.if-not-counted.false (c.momentum_by_set.ensures.is obstructed (words_given c.args.obstacles c.in-Some.obstacles (walled_by obstructed) c.in-Some.is is))

pub returns-in-None : goal.returns-in-None
returns-in-None c = λ obstructed is.
    is_counted c.args.counted _ _ c.if-not-counted.false (none_took c.args.parity c.args.tile.now (is_walled_at c.args.parity obstructed) (nothing_given c.args.obstacles (walled_by obstructed) c.in-None.is is c.args.parity c.requires))
