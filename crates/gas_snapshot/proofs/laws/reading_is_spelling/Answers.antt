use Rattle.std.proofs.Common.{ℕ, ◌<◌, List, length, All, inl, inr, arith}
use Rattle.std.proofs.lemmas.Bool.{cases_lt}
use Rattle.std.proofs.lemmas.List.{get_or_past}
use Rattle.gas_snapshot.proofs.FieldLaws.{IsBytes}
use Rattle.gas_snapshot.proofs.GasLaws.{reading_takes, reading_spelled}
use Rattle.gas_snapshot.proofs.laws.reading_is_spelling.Goals as goal

-- past the end a place reads as 0
are_bytes : (bytes : List ℕ) → All (λ b. b < 256) bytes → IsBytes bytes
are_bytes bytes all i = elim (cases_lt i (length bytes)) [
  | inl inside ↦ all i 0 inside
  | inr past ↦ rw (get_or_past bytes i 0 past) (omega arith)
]

pub returns-clause-read : goal.returns-clause-read
returns-clause-read c = λ bytes g all read. reading_takes bytes g (are_bytes bytes all) read

pub returns-clause-spelled : goal.returns-clause-spelled
returns-clause-spelled c = reading_spelled
