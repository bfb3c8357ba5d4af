-- Counts of the cells of a row, 64 at a time from the left.
use Rattle.std.proofs.Common.{◌≡◌, ℕ, ◌+◌, ◌*◌, ◌%◌, ◌^◌, ◌<◌, ◌≤◌, ◌==◌, ◌&&◌, not, cond, List, get_or, sym, ap, ap₂, ◌∙◌, arith, bit_and, w64}
use Rattle.std.specs.Int.{bit_not}
use Rattle.bit_tile.specs.Bit.{bit}
use Rattle.bit_tile.specs.Sums.{count_below}
use Rattle.bit_tile.proofs.Bits.{bit-and, bit-not}
use Rattle.gas_terms.specs.Cells.{Cells, has, without}
use Rattle.gas_terms.specs.Rows.{row_has, row_replaced}
use Rattle.gas_terms.specs.Accounts.{parity_count}
use Rattle.gas_terms.proofs.Cells.{has-cells_where}
use Rattle.gas_terms.proofs.FiniteSums.{sum_below, sum_below-cong}
use Rattle.gas_terms.proofs.RowSums.{strip, strip_more, new_row}
use Rattle.gas_plane.proofs.PlaneCounts.{row_sum, same_parity}
use Rattle.gas_plane.proofs.RowSweeps.{chunk_has}
use Rattle.gas_plane.specs.Counts.{AreCounts}

-- the word has the 64 cells of row y from column 64 * column on
pub record IsWordOf (word : ℕ) (cells : Cells) (column y : ℕ) : Type 0 where
  pub cell : (x : ℕ) → x < 64 → bit word x ≡ has cells (column * 64 + x) y

-- a word's cells are counted in its part of the row
word_count : (word : ℕ) (cells : Cells) (column y a b : ℕ) → IsWordOf word cells column y
    → count_below 64 (λ x. bit word x && x % 2 == a && y % 2 == b) ≡ sum_below 64 (λ x. cond (has cells (column * 64 + x) y && ((column * 64 + x) % 2 == a) && (y % 2 == b)) 1 0)
word_count word cells column y a b is =
    row_sum 64 (λ x. bit word x && x % 2 == a && y % 2 == b)
    ∙ sum_below-cong 64 (λ x. cond (bit word x && x % 2 == a && y % 2 == b) 1 0) (λ x. cond (has cells (column * 64 + x) y && ((column * 64 + x) % 2 == a) && (y % 2 == b)) 1 0)
    (λ x h. ap₂ (λ u v. cond (u && v && (y % 2 == b)) 1 0) (is.cell x h) (same_parity column x a))

pub counts_wider : (counts here sums : List ℕ) (word : ℕ) (cells : Cells) (column y : ℕ) → AreCounts counts cells (strip y (column * 64)) → IsWordOf word cells column y
    → ((a b : ℕ) → a < 2 → b < 2 → get_or here (2 * b + a) 0 ≡ count_below 64 (λ x. bit word x && x % 2 == a && y % 2 == b))
    → ((k : ℕ) → k < 4 → get_or sums k 0 ≡ get_or counts k 0 + get_or here k 0) → AreCounts sums cells (strip y ((column + 1) * 64))
counts_wider counts here sums word cells column y are is counted added =
    let next : column * 64 + 64 ≡ (column + 1) * 64 = omega arith in
    record {
      count = λ a b p q.
          added (2 * b + a) (omega arith)
          ∙ (ap₂ (λ m n. m + n) (are.count a b p q) (counted a b p q ∙ word_count word cells column y a b is)
          ∙ (sym (strip_more cells y (column * 64) 64 a b) ∙ ap (λ w. parity_count cells (strip y w) a b) next));
    }

-- the word of the cells that one set has and another lacks
pub word_without : (v w : ℕ) (cells other : Cells) (column y : ℕ) → w < 2 ^ 64 → column * 64 + 64 ≤ cells.width → y < cells.height → IsWordOf v cells column y → IsWordOf w other column y
    → IsWordOf (bit_and v (bit_not w64 w)) (without cells other) column y
word_without v w cells other column y fits p q is is_other =
    record {
      cell = λ x h.
          bit-and v (bit_not w64 w) x
          ∙ (ap₂ (λ s t. s && t) (is.cell x h) (bit-not w x fits h ∙ ap not (is_other.cell x h))
          ∙ sym (has-cells_where cells.width cells.height (λ x y. has cells x y && not (has other x y)) (column * 64 + x) y (omega arith) q));
    }

-- the word of eight bytes of the new row
pub word_of_row : (word : ℕ) (cells : Cells) (row column : ℕ) (bytes chunk : List ℕ) → column * 64 + 64 ≤ cells.width → row < cells.height → ((x : ℕ) → x < 64 → bit word x ≡ row_has chunk x)
    → ((k : ℕ) → k < 8 → get_or chunk k 0 ≡ get_or bytes (column * 8 + k) 0) → IsWordOf word (row_replaced cells row bytes) column row
word_of_row word cells row column bytes chunk p q bits same =
    record { cell = λ x h. bits x h ∙ (chunk_has bytes chunk column x h same ∙ sym (new_row cells row bytes (column * 64 + x) (omega arith) q)) }
