-- Particles that are counted in four classes of columns and rows.
use Rattle.std.proofs.Common.{◌≡◌, ℕ, ◌^◌, ◌≤◌, true, List, ℤ, get_or, sym, ◌∙◌, subst, mul-le-mul, arith}
use Rattle.gas_terms.specs.Cells.{Cells, Rectangle, extent, lies_within, whole, within}
use Rattle.gas_terms.specs.Accounts.{total, total_in, IsOfAtMost}
use Rattle.gas_terms.specs.Counts.{AreSmall, sums_of_counts}
use Rattle.gas_terms.proofs.AccountBounds.{size-width, size-height, size-even}
use Rattle.gas_terms.proofs.ProbeTotals.{total_in-within}
use Rattle.gas_terms.proofs.RectangleTotals.{total-whole, total_in-parities, parity_count-small}
use Rattle.gas_terms.proofs.TotalBounds.{same_counts, within_width, within_height, total_bounded}
use Rattle.gas_plane.specs.Planes.{IsLattice}
use Rattle.gas_plane.specs.Counts.{AreCounts}

-- The four counts of a rectangle give its sums.
pub counted_sums : (tick : ℤ) (counts : List ℕ) (cells : Cells) (r : Rectangle) → AreCounts counts cells r → sums_of_counts tick counts ≡ total_in tick cells r
counted_sums tick counts cells r are = grind (arith, same_counts, total_in-parities)

pub counts_small : (counts : List ℕ) (cells : Cells) (r : Rectangle) → AreCounts counts cells r → r.w ≤ 4096 → r.h ≤ 4096 → AreSmall counts
counts_small counts cells r are w h = grind (arith, mul-le-mul, get_or, parity_count-small, subst)

pub all_counts_small : (counts : List ℕ) (cells : Cells) → IsLattice cells → AreCounts counts cells (whole cells) → AreSmall counts
all_counts_small counts cells is are = counts_small counts cells (whole cells) are (size-width (extent cells) is.sized) (size-height (extent cells) is.sized)

-- and those of all cells give the sums of all
pub counted_total : (tick : ℤ) (counts : List ℕ) (cells : Cells) → IsLattice cells → AreCounts counts cells (whole cells) → sums_of_counts tick counts ≡ total tick cells
counted_total tick counts cells is are = counted_sums tick counts cells (whole cells) are ∙ sym (total-whole tick cells (size-even (extent cells) is.sized))

pub rectangle_counts_small : (counts : List ℕ) (cells : Cells) (r : Rectangle) → IsLattice cells → lies_within (extent cells) r ≡ true → AreCounts counts cells r → AreSmall counts
rectangle_counts_small counts cells r is fits are =
    counts_small counts cells r are (omega (arith, within_width (extent cells) r fits, size-width (extent cells) is.sized)) (omega (arith, within_height (extent cells) r fits, size-height (extent cells) is.sized))

pub total_in_bounded : (tick : ℤ) (cells : Cells) (r : Rectangle) → IsLattice cells → lies_within (extent cells) r ≡ true → IsOfAtMost (2 ^ 24) (total_in tick cells r)
total_in_bounded tick cells r is fits =
    subst (IsOfAtMost (2 ^ 24)) (sym (total_in-within tick cells r (size-even (extent cells) is.sized) fits)) (total_bounded tick (within cells r) is.sized)
