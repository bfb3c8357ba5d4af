use Rattle.block_rule.proofs.Beyond.{reach_turned}
use Rattle.block_rule.proofs.laws.odd_blocks_reach_beyond.Goals as goal

pub returns : goal.returns
returns c = reach_turned
