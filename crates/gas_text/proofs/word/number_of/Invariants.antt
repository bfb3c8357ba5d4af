use Rattle.std.proofs.Common.{◌≡◌, ◌<◌, ◌^◌, drop}
use Rattle.std.specs.Str.{all_ascii_digits}
use Rattle.gas_text.specs.Words.{value_after, value_of}
use Rattle.gas_text.proofs.word.number_of.Given as goal

abbrev pub invariant-loop-b : goal.invariant-loop-b
invariant-loop-b l = record {
  small : l.value < 2 ^ 32;
  value : value_after l.value (drop l.b-index l.word) ≡ value_of l.word;
  digits : all_ascii_digits (drop l.b-index l.word) ≡ all_ascii_digits l.word;
}
