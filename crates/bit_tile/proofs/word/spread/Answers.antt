use Rattle.std.proofs.Common.{arith}
use Rattle.bit_tile.proofs.Spreading.{bit_of_spread}
use Rattle.bit_tile.proofs.word.spread.Goals as goal

pub returns : goal.returns
returns c = bit_of_spread c.args.word (omega arith)
