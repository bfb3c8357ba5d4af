use Rattle.std.proofs.Common.{arith}
use Rattle.block_rule.proofs.Words.{bit_of_next}
use Rattle.block_rule.proofs.blocks.next.Goals as goal

pub returns : goal.returns
returns c = λ i h. bit_of_next c.args.row c.args.right i (omega arith) h
