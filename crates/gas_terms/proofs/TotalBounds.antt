-- Sums by equal counts, and how large the sums of a lattice's particles can be.
use Rattle.std.proofs.Common.{◌≡◌, ℕ, ◌*◌, ◌^◌, ◌≤◌, true, ℤ, mul-le-mul, arith}
use Rattle.std.proofs.lemmas.Bool.Decides.{nat_tests}
use Rattle.gas_terms.specs.Cells.{Cells, Rectangle, Extent, extent, lies_within, is_size}
use Rattle.gas_terms.specs.Accounts.{total, sums_by_parity, IsOfAtMost}
use Rattle.gas_terms.proofs.AccountBounds.{more_sums, size-width, size-height, size-even}
use Rattle.gas_terms.proofs.Bounds.{total-bounded}

pub same_counts : (tick : ℤ) (a a' b b' c c' d d' : ℕ) → a ≡ a' → b ≡ b' → c ≡ c' → d ≡ d' → sums_by_parity tick a b c d ≡ sums_by_parity tick a' b' c' d'
same_counts tick a a' b b' c c' d d' e f g h = grind arith

-- a rectangle is no wider and no higher than the lattice
pub within_width : (size : Extent) (r : Rectangle) → lies_within size r ≡ true → r.w ≤ size.width
within_width size r fits = grind (arith, nat_tests)

pub within_height : (size : Extent) (r : Rectangle) → lies_within size r ≡ true → r.h ≤ size.height
within_height size r fits = grind (arith, nat_tests)

-- The sums of a lattice's particles are those of at most 2 ^ 24.
pub total_bounded : (tick : ℤ) (cells : Cells) → is_size (extent cells) ≡ true → IsOfAtMost (2 ^ 24) (total tick cells)
total_bounded tick cells size =
    let most : cells.width * cells.height ≤ 2 ^ 24 = mul-le-mul (size-width (extent cells) size) (size-height (extent cells) size) in
    more_sums (cells.width * cells.height) (2 ^ 24) (total tick cells) most (total-bounded tick cells (size-even (extent cells) size))
