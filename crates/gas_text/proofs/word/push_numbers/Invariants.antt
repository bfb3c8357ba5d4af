use Rattle.std.proofs.Common.{◌≡◌, ◌≤◌, ◌+◌, ◌*◌, ◌++◌, length, map, drop}
use Rattle.std.specs.Fmt.{decimal}
use Rattle.gas_text.specs.Words.{spaced}
use Rattle.gas_text.proofs.word.push_numbers.Given as goal

-- what is there and what is left to write are the whole
abbrev pub invariant-loop-n : goal.invariant-loop-n
invariant-loop-n l = record {
  text : l.page ++ spaced (map decimal (drop l.n-index l.numbers)) ≡ l.fn.page ++ spaced (map decimal l.numbers);
  short : length l.page ≤ length l.fn.page + 21 * l.n-index;
}
