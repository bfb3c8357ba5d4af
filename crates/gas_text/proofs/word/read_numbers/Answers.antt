use Rattle.std.proofs.Common.{sym, ◌∙◌, arith}
use Rattle.gas_text.specs.Words.{words}
use Rattle.gas_text.proofs.LineWords.{one_less, next_is}
use Rattle.gas_text.proofs.word.read_numbers.Goals as goal

pub loop-i-preserved : goal.loop-i-preserved
loop-i-preserved c = record {
  rest = sym (one_less c.loop-i.i (words c.args.line.now) (words c.in_ok-word.after.now) c.in_ok-word.word.now (sym c.loop-i.invariant.rest ∙ c.in_ok-word.ensures.words));
  numbers = next_is c.loop-i.numbers c.loop-i.i c.args.count c.in_ok-numbers.field-0 c.in_ok-word.word.now (words c.loop-i.rest.now) (words c.in_ok-word.after.now) (omega arith) (omega arith) c.in_ok-word.ensures.words (sym c.in_ok-numbers.ensures) ∙ c.loop-i.invariant.numbers;
}
