use Rattle.std.proofs.Common.{arith}
use Rattle.block_rule.proofs.InPlace.{none_given}
use Rattle.block_rule.proofs.NamedBlocks.{words_given}
use Rattle.block_rule.specs.TileBlocks.{walled_by}
use Rattle.block_rule.proofs.in_place.turn_inner.Goals as goal

pub returns-in-None-clause-turned : goal.returns-in-None-clause-turned
returns-in-None-clause-turned c = λ window solid after are seen given. c.turn_free.ensures.turned window solid after are seen (none_given c.args.walled 0 31 solid (omega arith) c.in-None.is given)

pub returns-in-None-clause-leaving : goal.returns-in-None-clause-leaving
returns-in-None-clause-leaving c = λ window solid seen given. c.turn_free.ensures.leaving window solid seen (none_given c.args.walled 0 31 solid (omega arith) c.in-None.is given)

pub returns-in-Some-clause-turned : goal.returns-in-Some-clause-turned
returns-in-Some-clause-turned c = λ window solid after are seen given. c.turn_apart.ensures.turned window solid after are seen (words_given c.args.walled c.in-Some.set (walled_by solid) c.in-Some.is given)

pub returns-in-Some-clause-leaving : goal.returns-in-Some-clause-leaving
returns-in-Some-clause-leaving c = λ window solid seen given. c.turn_apart.ensures.leaving window solid seen (words_given c.args.walled c.in-Some.set (walled_by solid) c.in-Some.is given)
