use Rattle.std.proofs.lemmas.Grind.{common_steps}
use Rattle.std.proofs.Common.{arith}
use Rattle.block_rule.proofs.Words.{none_walled}
use Rattle.block_rule.proofs.blocks.CollisionRule.made.Goals as goal

pub returns : goal.returns
returns c = grind (arith, common_steps, none_walled)
