use Rattle.std.proofs.Common.{◌≡◌, ℕ, ◌<◌, false, get_or}
use Rattle.gas_text.specs.Words.{is_space}
use Rattle.gas_text.proofs.word.space_at.Given as goal

abbrev pub invariant-loop-i : goal.invariant-loop-i
invariant-loop-i l = (k : ℕ) → k < l.i → is_space (get_or l.line k 0) ≡ false
