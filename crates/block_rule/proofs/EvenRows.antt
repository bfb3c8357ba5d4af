-- Rows of even blocks that have turned among walled blocks.
use Rattle.std.proofs.Common.{◌≡◌, ℕ, ◌+◌, ◌-◌, ◌*◌, ◌/◌, ◌<◌, ◌≤◌, ◌⊎◌, Bool, false, sym, subst, inl, inr, ◌∙◌, ap, arith}
use Rattle.std.proofs.lemmas.Bool.{cases_lt}
use Rattle.bit_tile.specs.Bit.{bit}
use Rattle.bit_tile.specs.declared.Tile.{Tile}
use Rattle.bit_tile.proofs.Bits.{bit-zero}
use Rattle.block_rule.specs.Around.{is_walled_at}
use Rattle.block_rule.specs.Cell.{turned_cell}
use Rattle.block_rule.specs.NamedBlocks.{AreCollidedEven}
use Rattle.block_rule.specs.Rows.{IsMade, even_row, eight_row}
use Rattle.block_rule.specs.Shown.{TellsRows}
use Rattle.block_rule.specs.declared.blocks.Blocks.{Blocks}
use Rattle.block_rule.specs.declared.blocks.EightRows.{EightRows}

pub made_alike : (walled others : ℕ → Bool) (old new : Blocks) → ((i : ℕ) → i < 32 → walled i ≡ others i) → IsMade (λ i. turned_cell (walled i)) old new → IsMade (λ i. turned_cell (others i)) old new
made_alike walled others old new same is = grind arith

-- a row of which a word tells that no block is walled
pub free_words : (row_pairs j i : ℕ) (solid : ℕ → ℕ → Bool) → j < 32 → i < 32 → bit row_pairs j ≡ false → TellsRows row_pairs (is_walled_at 0 solid) → bit 0 i ≡ is_walled_at 0 solid (2 * i) (2 * j)
free_words row_pairs j i solid below within none tells = let half : 2 * j / 2 ≡ j = omega arith in bit-zero i ∙ sym (tells (2 * i) (2 * j) (omega arith) (omega arith) (ap (bit row_pairs) half ∙ none))

-- eight rows that are made of a tile's and written to it
pub rows_written : (from : ℕ) (solid : ℕ → ℕ → Bool) (rows : EightRows) (old new : Tile) → ((k : ℕ) → k < 8 → IsMade (λ i. turned_cell (is_walled_at 0 solid (2 * i) (2 * (from + k)))) (even_row old (from + k)) (eight_row rows k)) → ((k : ℕ) → k < 8 → even_row new (from + k) ≡ eight_row rows k)
    → ((j : ℕ) → (j < from) ⊎ (from + 8 ≤ j) → even_row new j ≡ even_row old j) → AreCollidedEven from (from + 8) solid old new
rows_written from solid rows old new made written rest =
    record {
      done = λ j low below.
          let at : from + (j - from) ≡ j = omega arith in
          subst (λ j. IsMade (λ i. turned_cell (is_walled_at 0 solid (2 * i) (2 * j))) (even_row old j) (even_row new j)) at
          (subst (IsMade (λ i. turned_cell (is_walled_at 0 solid (2 * i) (2 * (from + (j - from))))) (even_row old (from + (j - from)))) (sym (written (j - from) (omega arith))) (made (j - from) (omega arith)));
      rest = rest;
    }

-- rows that turn after others
pub rows_after : (from mid to : ℕ) (solid : ℕ → ℕ → Bool) (old now new : Tile) → AreCollidedEven from mid solid old now → AreCollidedEven mid to solid now new → from ≤ mid → mid ≤ to → AreCollidedEven from to solid old new
rows_after from mid to solid old now new first more low high =
    record {
      done = λ j above below. elim (cases_lt j mid) [
        | inl early ↦ subst (IsMade (λ i. turned_cell (is_walled_at 0 solid (2 * i) (2 * j))) (even_row old j)) (sym (more.rest j (inl early))) (first.done j above early)
        | inr late ↦ subst (λ r. IsMade (λ i. turned_cell (is_walled_at 0 solid (2 * i) (2 * j))) r (even_row new j)) (first.rest j (inr late)) (more.done j late below)
      ];
      rest = λ j. elim [
        | inl before ↦ more.rest j (inl (omega arith)) ∙ first.rest j (inl before)
        | inr after ↦ more.rest j (inr after) ∙ first.rest j (inr (omega arith))
      ];
    }
