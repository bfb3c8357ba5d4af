use Rattle.std.proofs.Common.{arith}
use Rattle.block_rule.proofs.InPlace.{rows_free, set_given}
use Rattle.block_rule.proofs.in_place.turned_last.Goals as goal

pub returns-then-bits_from-eq0-clause-turned : goal.returns-then-bits_from-eq0-clause-turned
returns-then-bits_from-eq0-clause-turned c = λ window solid after are seen named. c.turned_on.ensures.turned window solid after are seen (rows_free c.args.set 23 (31) solid (omega arith) named (c.bits_from.ensures c.if-bits_from-eq0.true))

pub returns-else-bits_from-eq0-clause-turned : goal.returns-else-bits_from-eq0-clause-turned
returns-else-bits_from-eq0-clause-turned c = λ window solid after are seen named. c.turned_on-else-bits_from-eq0.ensures.turned window solid after are seen (set_given c.args.set 23 (31) solid (omega arith) named)

pub returns-then-bits_from-eq0-clause-leaving : goal.returns-then-bits_from-eq0-clause-leaving
returns-then-bits_from-eq0-clause-leaving c = λ window solid seen named. c.turned_on.ensures.leaving window solid seen (rows_free c.args.set 23 (31) solid (omega arith) named (c.bits_from.ensures c.if-bits_from-eq0.true))

pub returns-else-bits_from-eq0-clause-leaving : goal.returns-else-bits_from-eq0-clause-leaving
returns-else-bits_from-eq0-clause-leaving c = λ window solid seen named. c.turned_on-else-bits_from-eq0.ensures.leaving window solid seen (set_given c.args.set 23 (31) solid (omega arith) named)
