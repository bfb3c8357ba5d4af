use Rattle.std.proofs.lemmas.Grind.{common_steps}
use Rattle.std.proofs.Common.{arith, length-drop}
use Rattle.std.proofs.lemmas.List.{take_all}
use Rattle.gas_text.proofs.LineWords.{words_found, words_missing}
use Rattle.gas_text.proofs.word.cut_at_space.Goals as goal

pub returns-then-at-line-clause-words : goal.returns-then-at-line-clause-words
returns-then-at-line-clause-words c = grind (arith, common_steps, words_found, take_all, length-drop)

pub returns-else-at-line-clause-words : goal.returns-else-at-line-clause-words
returns-else-at-line-clause-words c = words_missing c.args.line.now (omega arith)
