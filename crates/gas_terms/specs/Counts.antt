-- Particles counted in four classes of columns and rows: even and even, odd and even, even and odd, odd and odd.
use Rattle.std.specs.Prelude.{ℕ, ◌^◌, ◌<◌, ℤ, List, slice_index}
use Rattle.gas_terms.specs.Accounts.{sums_by_parity}
use Rattle.gas_terms.specs.declared.accounts.Sums.{Sums}

-- each count is that of a lattice's cells at most
pub record AreSmall (counts : List ℕ) : Type 0 where
  pub small : (k : ℕ) → k < 4 → slice_index counts k < 2 ^ 32

-- the sums of particles that are so counted
abbrev pub sums_of_counts : ℤ → List ℕ → Sums
sums_of_counts tick counts =
    sums_by_parity tick
    (slice_index counts 0) (slice_index counts 1) (slice_index counts 2) (slice_index counts 3)
