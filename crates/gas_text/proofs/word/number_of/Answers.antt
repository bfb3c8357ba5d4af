use Rattle.std.proofs.Common.{length-drop, arith}
use Rattle.std.proofs.lemmas.List.{nil_from_length}
use Rattle.std.proofs.lemmas.Grind.{common_steps}
use Rattle.gas_text.proofs.LineWords.{value_after-le, value_step, digits_step, number_is, not_digits, too_great, no_digit, too_many_digits}
use Rattle.gas_text.proofs.word.number_of.Goals as goal

pub returns-then-is_empty : goal.returns-then-is_empty
returns-then-is_empty c = grind (arith, common_steps, no_digit, too_many_digits)

pub returns-then-not-is_ascii_digit : goal.returns-then-not-is_ascii_digit
returns-then-not-is_ascii_digit c = grind (arith, common_steps, digits_step, not_digits)

pub returns-then-value : goal.returns-then-value
returns-then-value c = grind (arith, common_steps, value_step, value_after-le, too_great)

pub returns : goal.returns
returns c = grind (arith, common_steps, nil_from_length, length-drop, number_is)
