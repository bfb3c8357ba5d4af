use Rattle.std.specs.Prelude.{◌≡◌, ℕ, ◌+◌, ◌*◌, ◌%◌, ◌^◌, ◌<◌, ◌≤◌, ◌==◌, ◌&&◌, Bool, ℤ, List, slice_index}
use Rattle.bit_tile.specs.Tile.{count_cells}
use Rattle.gas_terms.specs.Counts.{sums_of_counts}
use Rattle.gas_terms.specs.declared.accounts.Moved.{Moved}
use Rattle.phase_step.specs.declared.sums.cell_counts.CellCounts.{CellCounts}

-- the counts of a tile's cells that pass the test: even column and even row, odd and even, even and odd, odd and odd
pub record AreTileCounts (counts : List ℕ) (test : ℕ → ℕ → Bool) : Type 0 where
  pub count : (a b : ℕ) → a < 2 → b < 2 → slice_index counts (2 * b + a)
      ≡ count_cells (λ x y. test x y && x % 2 == a && y % 2 == b)
  pub few : (k : ℕ) → k < 4 → slice_index counts k ≤ 2048

-- the sums of particles that come in and go out, by such counts
abbrev pub moved_by_counts : ℤ → CellCounts → Moved
moved_by_counts tick change = record { injected = sums_of_counts tick change.gained; drained = sums_of_counts tick change.lost }

-- counts of four classes, added class by class
abbrev pub AreTogether : List ℕ → List ℕ → List ℕ → Type 0
AreTogether some more both = (k : ℕ) → k < 4 → slice_index both k ≡ slice_index some k + slice_index more k

-- each sum fits 64 bits
abbrev pub CountsFit : List ℕ → List ℕ → Type 0
CountsFit some more = (k : ℕ) → k < 4 → slice_index some k + slice_index more k < 2 ^ 63
