-- Counts of four classes that are added up, and the sums of their particles.
use Rattle.std.proofs.Common.{◌≡◌, ℕ, zero, suc, ◌+◌, ◌<◌, ◌≤◌, ◌==◌, Bool, true, false, ℤ, pos, ◌+ℤ◌, ◌-ℤ◌, ◌*ℤ◌, List, [], ◌∷◌, refl, arith, slice_index}
use Rattle.std.proofs.lemmas.Int.{ints}
use Rattle.gas_terms.specs.Accounts.{plus, moved_plus, sums_by_parity}
use Rattle.gas_terms.specs.Counts.{sums_of_counts}
use Rattle.gas_terms.specs.Velocity.{sign, parity}
use Rattle.gas_terms.proofs.Totals.{same_sums}
use Rattle.phase_step.specs.Actions.{unmoved}
use Rattle.phase_step.specs.Counts.{AreTogether, moved_by_counts}
use Rattle.phase_step.specs.declared.sums.cell_counts.CellCounts.{CellCounts}
use Rattle.phase_step.proofs.FlowSums.{same_moved}

signed : (s : Bool) (a b c d e f g h : ℕ) → sign s *ℤ (pos (a + e + (c + g)) -ℤ pos (b + f + (d + h))) ≡ sign s *ℤ (pos (a + c) -ℤ pos (b + d)) +ℤ sign s *ℤ (pos (e + g) -ℤ pos (f + h))
signed true a b c d e f g h = omega (arith, ints)
signed false a b c d e f g h = omega (arith, ints)

sums_added : (tick : ℤ) (a b c d e f g h : ℕ) → sums_by_parity tick (a + e) (b + f) (c + g) (d + h) ≡ plus (sums_by_parity tick a b c d) (sums_by_parity tick e f g h)
sums_added tick a b c d e f g h = same_sums _ _ (omega (arith, ints)) (signed (parity tick == 0) a b c d e f g h) (signed (parity tick == 0) a c b d e g f h)

sums_together : (tick : ℤ) (some more both : List ℕ) → AreTogether some more both → sums_of_counts tick both ≡ plus (sums_of_counts tick some) (sums_of_counts tick more)
sums_together tick some more both are =
    let e = are 0 (omega arith) in
    let f = are 1 (omega arith) in
    let g = are 2 (omega arith) in
    let h = are 3 (omega arith) in
    rw (e, f, g, h) (sums_added tick (slice_index some 0) (slice_index some 1) (slice_index some 2) (slice_index some 3) (slice_index more 0) (slice_index more 1) (slice_index more 2) (slice_index more 3))

pub moved_together : (tick : ℤ) (some more both : CellCounts) → AreTogether some.gained more.gained both.gained → AreTogether some.lost more.lost both.lost → moved_by_counts tick both ≡ moved_plus (moved_by_counts tick some) (moved_by_counts tick more)
moved_together tick some more both gained lost = same_moved _ _ (sums_together tick some.gained more.gained both.gained gained) (sums_together tick some.lost more.lost both.lost lost)

-- at most so many of each class
abbrev pub AreFew : ℕ → List ℕ → Type 0
AreFew n counts = (k : ℕ) → k < 4 → slice_index counts k ≤ n

pub few_together : (m n : ℕ) (some more both : List ℕ) → AreTogether some more both → AreFew m some → AreFew n more → AreFew (m + n) both
few_together m n some more both are few few_more k h = omega (arith, are k h, few k h, few_more k h)

pub none_few : (n k : ℕ) → k < 4 → slice_index (0 ∷ 0 ∷ 0 ∷ 0 ∷ []) k ≤ n
none_few n zero h = omega arith
none_few n (suc zero) h = omega arith
none_few n (suc (suc zero)) h = omega arith
none_few n (suc (suc (suc zero))) h = omega arith
none_few n (suc (suc (suc (suc k)))) h = absurd (omega (arith, h))

signed_none : (s : Bool) → sign s *ℤ (pos 0 -ℤ pos 0) ≡ pos 0
signed_none true = omega (arith, ints)
signed_none false = omega (arith, ints)

-- no cells move nothing
pub zeros_move_nothing : (tick : ℤ) → moved_by_counts tick (record { gained = 0 ∷ 0 ∷ 0 ∷ 0 ∷ []; lost = 0 ∷ 0 ∷ 0 ∷ 0 ∷ [] }) ≡ unmoved
zeros_move_nothing tick =
    let s = signed_none (parity tick == 0) in
    same_moved _ _ (same_sums _ _ refl s s) (same_sums _ _ refl s s)
