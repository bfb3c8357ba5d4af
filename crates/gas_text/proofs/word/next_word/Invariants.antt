use Rattle.std.proofs.Common.{◌≡◌, ◌≤◌, length}
use Rattle.gas_text.specs.Words.{words}
use Rattle.gas_text.proofs.word.next_word.Given as goal

abbrev pub invariant-loop-rest : goal.invariant-loop-rest
invariant-loop-rest l = record { words : words l.line ≡ words l.rest; bound : length l.rest ≤ length l.line }

abbrev pub decreases-loop-rest : goal.decreases-loop-rest
decreases-loop-rest l = length l.rest
