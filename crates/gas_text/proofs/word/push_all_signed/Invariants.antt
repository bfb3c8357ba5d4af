use Rattle.std.proofs.Common.{◌≡◌, ◌≤◌, ◌+◌, ◌*◌, ◌++◌, length, map, drop}
use Rattle.std.specs.Fmt.{signed_decimal}
use Rattle.gas_text.specs.Words.{spaced}
use Rattle.gas_text.proofs.word.push_all_signed.Given as goal

-- what is there and what is left to write are the whole
abbrev pub invariant-loop-n : goal.invariant-loop-n
invariant-loop-n l = record {
  text : l.page ++ spaced (map signed_decimal (drop l.n-index l.numbers)) ≡ l.fn.page ++ spaced (map signed_decimal l.numbers);
  short : length l.page ≤ length l.fn.page + 21 * l.n-index;
}
