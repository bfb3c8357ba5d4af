use Rattle.bit_tile.proofs.Spreading.{bit_of_gather}
use Rattle.bit_tile.proofs.word.gather.Goals as goal

pub returns : goal.returns
returns c = bit_of_gather c.args.word
