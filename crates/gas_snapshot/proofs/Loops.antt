-- Reading fields of one kind one after the other, as a loop does.
use Rattle.std.proofs.Common.{◌≡◌, ℕ, suc, ◌-◌, ◌+◌, ◌<◌, List, ◌++◌, length, Result, Ok, append_assoc, arith}
use Rattle.std.proofs.lemmas.List.{length-append}
use Rattle.gas_snapshot.specs.declared.fault.SnapFault.{SnapFault}
use Rattle.gas_snapshot.specs.Reading.{◌>>=◌, and_one, many}

-- what was read before, and what is still read
abbrev pub with_front : {A : Type 0} → List A → Result (List A × List ℕ) SnapFault → Result (List A × List ℕ) SnapFault
with_front front read = read >>= λ x. Ok (front ++ x.0, x.1)

pub goes_on : {A : Type 0} (one_at : List ℕ → Result (A × List ℕ) SnapFault) (front : List A) (count i : ℕ) (bytes : List ℕ) → i < count
    → with_front front (many one_at (count - i) bytes) ≡ (and_one front (one_at bytes) >>= λ x. with_front x.0 (many one_at (count - (i + 1)) x.1))
unfolding many
goes_on one_at front count i bytes lt =
    let k : count - i ≡ suc (count - (i + 1)) = omega arith in
    rw k (grind (arith, append_assoc))

pub one_longer : {A : Type 0} (front more : List A) (read : Result (A × List ℕ) SnapFault) (after : List ℕ) → and_one front read ≡ Ok (more, after) → length more ≡ length front + 1
one_longer front more read after e = grind (arith, length-append)
