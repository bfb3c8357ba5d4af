use Rattle.std.proofs.Common.{◌≡◌, ◌-◌, ◌++◌, take, drop}
use Rattle.std.specs.Option.{option_map}
use Rattle.gas_text.specs.Words.{words, numbers_of}
use Rattle.gas_text.proofs.word.read_numbers.Given as goal

-- the numbers so far and those that are left are those of all
abbrev pub invariant-loop-i : goal.invariant-loop-i
invariant-loop-i l = record {
  rest : words l.rest ≡ drop l.i (words l.line);
  numbers : option_map (λ ns. take l.i l.numbers ++ ns) (numbers_of (take (l.count - l.i) (words l.rest))) ≡ numbers_of (take l.count (words l.line));
}
