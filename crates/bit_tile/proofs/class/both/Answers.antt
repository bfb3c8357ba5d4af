use Rattle.std.proofs.lemmas.Grind.{common_steps}
use Rattle.std.proofs.Common.{arith, length-set}
use Rattle.bit_tile.proofs.Bits.{bit-and}
use Rattle.bit_tile.proofs.Classes.{rows_more}
use Rattle.bit_tile.proofs.class.both.Goals as goal

pub loop-j-preserved : goal.loop-j-preserved
loop-j-preserved c = grind (arith, common_steps, length-set, rows_more, bit-and)
