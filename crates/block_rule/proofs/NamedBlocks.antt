-- The walled blocks of a tile at odd parity.
use Rattle.std.proofs.Common.{◌≡◌, refl, ℕ, ◌+◌, ◌-◌, ◌*◌, ◌/◌, ◌%◌, ◌<◌, Bool, false, ◌&&◌, get_or, sym, subst, ◌∙◌, ap, ap₂, arith, inl, inr, List, Option, Some, None}
use Rattle.std.proofs.lemmas.Bool.{cases_eq, eq-eqb, ne_eqb}
use Rattle.bit_tile.specs.Bit.{bit}
use Rattle.bit_tile.specs.Tile.{has}
use Rattle.bit_tile.specs.declared.Tile.{Tile}
use Rattle.block_rule.specs.Around.{block_start, is_block_walled, is_walled_at}
use Rattle.bit_tile.proofs.Classes.{IsClass, is_even_even, is_odd_even, is_even_odd, is_odd_odd}
use Rattle.block_rule.specs.Classes.{AreClassCounts, particles_among}
use Rattle.block_rule.specs.Shown.{HasNoCell}
use Rattle.block_rule.specs.NamedBlocks.{NameBlocks, AreEvenBlocksOf, AreOddBlocksOf}
use Rattle.block_rule.specs.declared.blocks_in_tile.OddBlocks.{OddBlocks}
use Rattle.block_rule.specs.TileBlocks.{NamesBlocks, AreGivenBlocks}
use Rattle.block_rule.specs.declared.blocks_in_tile.SetBlocks.{SetBlocks}
use Rattle.block_rule.proofs.Holding.{same_block, class_among}

-- where blocks of odd parity begin
pub odd_start : (x : ℕ) → block_start 1 (2 * x + 1) ≡ 2 * x + 2
odd_start x = let first : 2 * x + 1 + 1 ≡ 2 * x + 2 = omega arith in rw (eq-eqb ((2 * x + 1 + 1) % 2) 0 (omega arith)) first

pub even_start : (x : ℕ) → block_start 1 (2 * x + 0) ≡ 2 * x
even_start x = let first : 2 * x + 0 ≡ 2 * x = omega arith in rw (ne_eqb ((2 * x + 0 + 1) % 2) 0 (λ e. omega arith)) first

-- row k of blocks is that of the tile's row 2 * k - 1, or of row 0
pub row_start : (k : ℕ) → block_start 1 (2 * k - 1) ≡ 2 * k
row_start k = grind (arith, cases_eq, odd_start)

-- the words by the tile's cells
pub named_by_cells : (begins ends : ℕ → ℕ) (solid : ℕ → ℕ → Bool) → ((i k : ℕ) → i < 32 → k < 33 → bit (begins k) i ≡ is_walled_at 1 solid (2 * i + 1) (2 * k - 1)) → ((i k : ℕ) → i < 32 → k < 33 → bit (ends k) i ≡ is_walled_at 1 solid (2 * i + 0) (2 * k - 1))
    → NameBlocks begins ends solid
named_by_cells begins ends solid at_odd at_even = grind (arith, odd_start, row_start, even_start)

-- what is given of the words of a set
pub words_given : (given : Option SetBlocks) (s : SetBlocks) (test : ℕ → ℕ → ℕ → Bool) → given ≡ Some s → AreGivenBlocks given test → NamesBlocks s.rows s.blocks.now test
words_given given s test e is = subst (λ given. AreGivenBlocks given test) e is

pub nothing_given : (given : Option SetBlocks) (test : ℕ → ℕ → ℕ → Bool) → given ≡ None → AreGivenBlocks given test → (p : ℕ) → p < 2 → HasNoCell (test p)
nothing_given given test e is = subst (λ given. AreGivenBlocks given test) e is

-- the cells in blocks that words name
even_begins : (i p : ℕ) → p < 2 → block_start 0 (2 * i) ≡ block_start 0 (2 * i + p)
even_begins i p h = let half : (2 * i + p) / 2 ≡ i = omega arith in ap (λ i. block_start 0 (2 * i)) (sym half) ∙ same_block (2 * i + p)

pub even_class : (words : List ℕ) (window : ℕ → ℕ → Bool) → AreEvenBlocksOf words (is_walled_at 0 window) → (p q : ℕ) → p < 2 → q < 2 → IsClass words p q (is_walled_at 0 window)
even_class words window are p q p_two q_two i j h k = are i j h k ∙ ap₂ (is_block_walled window) (even_begins i p p_two) (even_begins j q q_two)

pub counted_among : (t : Tile) (ee oe eo oo : List ℕ) (test : ℕ → ℕ → Bool) (a b c d : ℕ) → IsClass ee 0 0 test → IsClass oe 1 0 test → IsClass eo 0 1 test → IsClass oo 1 1 test
    → a ≡ particles_among t.even_even ee 32 → b ≡ particles_among t.odd_even oe 32 → c ≡ particles_among t.even_odd eo 32 → d ≡ particles_among t.odd_odd oo 32
    → AreClassCounts (record { even_even = a; odd_even = b; even_odd = c; odd_odd = d }) (λ x y. has t x y && test x y)
counted_among t ee oe eo oo test a b c d is_ee is_oe is_eo is_oo count_ee count_oe count_eo count_oo =
    let zero : 0 < 2 = omega arith in
    let one : 1 < 2 = omega arith in
    record {
      even_even = class_among t.even_even ee 0 0 a (has t) test zero zero (is_even_even t) is_ee count_ee;
      odd_even = class_among t.odd_even oe 1 0 b (has t) test one zero (is_odd_even t) is_oe count_oe;
      even_odd = class_among t.even_odd eo 0 1 c (has t) test zero one (is_even_odd t) is_eo count_eo;
      odd_odd = class_among t.odd_odd oo 1 1 d (has t) test one one (is_odd_odd t) is_oo count_oo;
    }

-- the words of the classes at odd parity
module _ (b : OddBlocks) (window : ℕ → ℕ → Bool) (are : AreOddBlocksOf b (is_walled_at 1 window)) where
  next_row : (j : ℕ) → 2 * (j + 1) - 1 ≡ 2 * j + 1
  next_row j = omega arith

  pub end_first : (words : List ℕ) → ((j : ℕ) → j < 32 → get_or words j 0 ≡ get_or b.end j 0) → IsClass words 0 0 (is_walled_at 1 window)
  end_first words same i j h k = ap (λ w. bit w i) (same j k) ∙ (are.end i j h (omega arith) ∙ ap (is_block_walled window (block_start 1 (2 * i + 0))) (row_start j ∙ sym (even_start j)))

  pub begin_first : (words : List ℕ) → ((j : ℕ) → j < 32 → get_or words j 0 ≡ get_or b.begin j 0) → IsClass words 1 0 (is_walled_at 1 window)
  begin_first words same i j h k = ap (λ w. bit w i) (same j k) ∙ (are.begin i j h (omega arith) ∙ ap (is_block_walled window (block_start 1 (2 * i + 1))) (row_start j ∙ sym (even_start j)))

  pub end_last : (words : List ℕ) → ((j : ℕ) → j < 32 → get_or words j 0 ≡ get_or b.end (j + 1) 0) → IsClass words 0 1 (is_walled_at 1 window)
  end_last words same i j h k = ap (λ w. bit w i) (same j k) ∙ (are.end i (j + 1) h (omega arith) ∙ ap (λ y. is_walled_at 1 window (2 * i + 0) y) (next_row j))

  pub begin_last : (words : List ℕ) → ((j : ℕ) → j < 32 → get_or words j 0 ≡ get_or b.begin (j + 1) 0) → IsClass words 1 1 (is_walled_at 1 window)
  begin_last words same i j h k = ap (λ w. bit w i) (same j k) ∙ (are.begin i (j + 1) h (omega arith) ∙ ap (λ y. is_walled_at 1 window (2 * i + 1) y) (next_row j))

  -- none of the tile's cells in two rows, if the words of the blocks there have no bit
  pub none_there : (x y : ℕ) → x < 64 → y < 64 → bit (get_or b.begin (y / 2) 0) (x / 2) ≡ false → bit (get_or b.end (y / 2) 0) (x / 2) ≡ false → bit (get_or b.begin (y / 2 + 1) 0) (x / 2) ≡ false → bit (get_or b.end (y / 2 + 1) 0) (x / 2) ≡ false
      → is_walled_at 1 window x y ≡ false
  none_there x y h k begin_above end_above begin_below end_below =
      elim (cases_eq (x % 2) 0) [
        | inl even_x ↦ elim (cases_eq (y % 2) 0) [
          | inl even_y ↦ at 0 0 (omega (arith, even_x)) (omega (arith, even_y)) (sym (end_first b.end (λ _ _. refl) (x / 2) (y / 2) (omega arith) (omega arith)) ∙ end_above)
          | inr odd_y ↦ at 0 1 (omega (arith, even_x)) (omega (arith, odd_y)) (ap (λ v. is_walled_at 1 window (2 * (x / 2) + 0) v) (sym (next_row (y / 2))) ∙ (sym (are.end (x / 2) (y / 2 + 1) (omega arith) (omega arith)) ∙ end_below))
        ]
        | inr odd_x ↦ elim (cases_eq (y % 2) 0) [
          | inl even_y ↦ at 1 0 (omega (arith, odd_x)) (omega (arith, even_y)) (sym (begin_first b.begin (λ _ _. refl) (x / 2) (y / 2) (omega arith) (omega arith)) ∙ begin_above)
          | inr odd_y ↦ at 1 1 (omega (arith, odd_x)) (omega (arith, odd_y)) (ap (λ v. is_walled_at 1 window (2 * (x / 2) + 1) v) (sym (next_row (y / 2))) ∙ (sym (are.begin (x / 2) (y / 2 + 1) (omega arith) (omega arith)) ∙ begin_below))
        ]
      ]
    where
      at : (p q : ℕ) → 2 * (x / 2) + p ≡ x → 2 * (y / 2) + q ≡ y → is_walled_at 1 window (2 * (x / 2) + p) (2 * (y / 2) + q) ≡ false → is_walled_at 1 window x y ≡ false
      at p q is_x is_y none = sym (ap₂ (is_walled_at 1 window) is_x is_y) ∙ none

pub one_named : (b : OddBlocks) (solid : ℕ → ℕ → Bool) → AreOddBlocksOf b (is_walled_at 1 solid) → NameBlocks (λ k. get_or b.begin k 0) (λ k. get_or b.end k 0) solid
one_named b solid are = grind (arith, named_by_cells)
