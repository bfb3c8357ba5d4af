use Rattle.std.proofs.Common.{arith, refl}
use Rattle.block_rule.proofs.InPlace.{row_named_alike, none_given, set_given}
use Rattle.block_rule.proofs.NamedBlocks.{words_given}
use Rattle.block_rule.specs.TileBlocks.{walled_by}
use Rattle.block_rule.proofs.in_place.seam_word.Goals as goal

pub returns-in-None : goal.returns-in-None
returns-in-None c = λ solid given. row_named_alike _ _ solid 31 refl (none_given c.args.walled 31 32 solid (omega arith) c.in-None.is given 31 (omega arith) (omega arith))

pub returns-in-Some : goal.returns-in-Some
returns-in-Some c = λ solid given. row_named_alike _ _ solid 31 c.begin.ensures (set_given c.in-Some.set 31 32 solid (omega arith) (words_given c.args.walled c.in-Some.set (walled_by solid) c.in-Some.is given) 31 (omega arith) (omega arith))
