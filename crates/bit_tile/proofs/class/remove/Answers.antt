use Rattle.std.proofs.Common.{arith, length-set}
use Rattle.std.proofs.lemmas.Grind.{common_steps}
use Rattle.bit_tile.proofs.Bits.{bit-and}
use Rattle.bit_tile.proofs.Words32.{bit-not}
use Rattle.bit_tile.proofs.Classes.{rows_more_within}
use Rattle.bit_tile.proofs.class.remove.Goals as goal

pub loop-j-preserved : goal.loop-j-preserved
loop-j-preserved c = grind (arith, common_steps, length-set, rows_more_within, bit-and, bit-not)
