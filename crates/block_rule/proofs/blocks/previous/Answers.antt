use Rattle.std.proofs.Common.{arith}
use Rattle.block_rule.proofs.Words.{bit_of_previous}
use Rattle.block_rule.proofs.blocks.previous.Goals as goal

pub returns : goal.returns
returns c = λ i h. bit_of_previous c.args.row c.args.left i (omega arith) h
