use Rattle.std.specs.Prelude.{◌≡◌, ℕ, ◌+◌, ◌*◌, ◌<◌, Bool, IsTrue, List, slice_index}
use Rattle.gas_terms.specs.Cells.{Cells, Rectangle, whole}
use Rattle.gas_terms.specs.Accounts.{parity_count}

-- Four counts, of even column and even row, odd and even, even and odd, odd and odd: those of a set's cells in a rectangle.
pub record AreCounts (counts : List ℕ) (cells : Cells) (r : Rectangle) : Type 0 where
  pub count : (a b : ℕ) → a < 2 → b < 2 → slice_index counts (2 * b + a) ≡ parity_count cells r a b

-- counts that are kept are those of all cells
abbrev pub AreOfAll : Bool → List ℕ → Cells → Type 0
AreOfAll kept counts cells = IsTrue kept → AreCounts counts cells (whole cells)
