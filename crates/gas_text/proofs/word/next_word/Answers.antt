use Rattle.std.proofs.Common.{arith}
use Rattle.std.proofs.lemmas.List.{nil_from_length}
use Rattle.std.proofs.lemmas.Grind.{common_steps}
use Rattle.gas_text.proofs.LineWords.{words_nil}
use Rattle.gas_text.proofs.word.next_word.Goals as goal

pub returns-clause-words : goal.returns-clause-words
returns-clause-words c = grind (arith, common_steps, nil_from_length, words_nil)
