-- The blocks of a tile that have a cell of a set, by the cells that they fill.
use Rattle.std.proofs.Common.{◌≡◌, refl, sym, ap, ap₂, ◌∙◌, ℕ, zero, suc, inl, inr, ◌+◌, ◌-◌, ◌*◌, ◌/◌, ◌%◌, ◌^◌, ◌<◌, ◌≤◌, ◌⊎◌, Bool, false, ◌||◌, List, length, replicate, get_or, set, arith, bit_and, bit_or, get_or-set_same, get_or-set_other}
use Rattle.bit_tile.specs.Bit.{bit}
use Rattle.bit_tile.specs.declared.Tile.{Tile}
use Rattle.bit_tile.proofs.Bits.{bit-or, bit-zero, get_or-replicate_zero}
use Rattle.bit_tile.proofs.Words32.{bit_of_set_same, bit_of_set_other, bit_of_clear}
use Rattle.std.specs.Int.{w32, bit_not}
use Rattle.block_rule.specs.Around.{block_start, either, is_block_walled, is_walled_at}
use Rattle.block_rule.specs.Rows.{ShowsTile, IsMade, IsMadeOdd, even_row}
use Rattle.block_rule.specs.declared.blocks.Blocks.{Blocks}
use Rattle.std.proofs.lemmas.Bool.{cases_eq, cases_lt, eq-eqb, ne_eqb}
use Rattle.block_rule.specs.Shown.{TellsRows}
use Rattle.block_rule.specs.NamedBlocks.{AreEvenBlocksOf, AreOddBlocksOf}
use Rattle.block_rule.specs.TileBlocks.{NamesBlocks, DifferInRows}
use Rattle.block_rule.specs.declared.blocks_in_tile.OddBlocks.{OddBlocks}
use Rattle.block_rule.specs.declared.blocks_in_tile.TileBlocks.{TileBlocks}
use Rattle.block_rule.proofs.Blank.{walled_either}
use Rattle.block_rule.proofs.Holding.{same_block}
use Rattle.block_rule.proofs.NamedBlocks.{none_there, odd_start, even_start, row_start}
use Rattle.block_rule.proofs.Windows.{cell_by, ee_shown, oe_shown, eo_shown, oo_shown}

-- words that name no block
abbrev pub zero_words : TileBlocks
zero_words = record { even = replicate 32 0; odd = record { begin = replicate 33 0; end = replicate 33 0 } }

pub nothing_named : NamesBlocks 0 zero_words (λ p x y. is_walled_at p (λ _ _. false) x y)
nothing_named =
    record {
      even = λ i j _ _. nothing 32 i j;
      odd = record { begin = λ i k _ _. nothing 33 i k; end = λ i k _ _. nothing 33 i k };
      rows = λ _ _ _ _ _ _ _. refl;
    }
  where
    nothing : (n i k : ℕ) → bit (get_or (replicate {A = ℕ} n 0) k 0) i ≡ false
    nothing n i k = ap (λ w. bit w i) (get_or-replicate_zero n k) ∙ bit-zero i

-- what is named by one test is named by another that says the same
pub names_same : (row_pairs : ℕ) (b : TileBlocks) (test other : ℕ → ℕ → ℕ → Bool) → ((p x y : ℕ) → p < 2 → x < 64 → y < 64 → test p x y ≡ other p x y) → NamesBlocks row_pairs b test → NamesBlocks row_pairs b other
names_same row_pairs b test other same are = grind (arith)

-- any word of blocks that lie in rows 2 * j and 2 * j + 1, as the loop joins them
abbrev pub any_of : TileBlocks → ℕ → ℕ
any_of b j =
    bit_or (bit_or (get_or b.even j 0) (bit_or (get_or b.odd.begin j 0) (get_or b.odd.end j 0)))
    (bit_or (get_or b.odd.begin (j + 1) 0) (get_or b.odd.end (j + 1) 0))

none_of_or : (a b i : ℕ) → bit (bit_or a b) i ≡ false → (bit a i ≡ false) × (bit b i ≡ false)
none_of_or a b i none = both (bit a i) (bit b i) (sym (bit-or a b i) ∙ none)
  where
    both : (a b : Bool) → (a || b) ≡ false → (a ≡ false) × (b ≡ false)
    both a b e = (grind arith, grind arith)

-- two rows of the tile have no walled cell if the words there are 0
pub none_at : (b : TileBlocks) (window : ℕ → ℕ → Bool) → AreEvenBlocksOf b.even (is_walled_at 0 window) → AreOddBlocksOf b.odd (is_walled_at 1 window) → (p : ℕ) → p < 2 → (x y : ℕ) → x < 64 → y < 64 → any_of b (y / 2) ≡ 0 → is_walled_at p window x y ≡ false
none_at b window evens odds p two x y h k blank =
    let none : bit (any_of b (y / 2)) (x / 2) ≡ false = ap (λ w. bit w (x / 2)) blank ∙ bit-zero (x / 2) in
    let parts = none_of_or (bit_or (get_or b.even (y / 2) 0) (bit_or (get_or b.odd.begin (y / 2) 0) (get_or b.odd.end (y / 2) 0))) (bit_or (get_or b.odd.begin (y / 2 + 1) 0) (get_or b.odd.end (y / 2 + 1) 0)) (x / 2) none in
    let upper = none_of_or (get_or b.even (y / 2) 0) (bit_or (get_or b.odd.begin (y / 2) 0) (get_or b.odd.end (y / 2) 0)) (x / 2) parts.0 in
    let above = none_of_or (get_or b.odd.begin (y / 2) 0) (get_or b.odd.end (y / 2) 0) (x / 2) upper.1 in
    let below = none_of_or (get_or b.odd.begin (y / 2 + 1) 0) (get_or b.odd.end (y / 2 + 1) 0) (x / 2) parts.1 in
    at p two upper.0 (none_there b.odd window odds x y h k above.0 above.1 below.0 below.1)
  where
    at : (p : ℕ) → p < 2 → bit (get_or b.even (y / 2) 0) (x / 2) ≡ false → is_walled_at 1 window x y ≡ false → is_walled_at p window x y ≡ false
    at zero two even odd = ap₂ (is_block_walled window) (sym (same_block x)) (sym (same_block y)) ∙ (sym (evens (x / 2) (y / 2) (omega arith) (omega arith)) ∙ even)
    at (suc zero) two even odd = odd
    at (suc (suc p)) two even odd = absurd (omega arith)

-- the words of a row of odd blocks, which begins at the window's row 2 * k
pub record IsRowNamed (window : ℕ → ℕ → Bool) (k begin end : ℕ) : Type 0 where
  pub begins : (i : ℕ) → i < 32 → bit begin i ≡ is_block_walled window (2 * i + 2) (2 * k)
  pub ends : (i : ℕ) → i < 32 → bit end i ≡ is_block_walled window (2 * i) (2 * k)

-- any of a block's cells, in the order of the rule and of the block
right_first : (a b c d : Bool) → ((b || d) || (a || c)) ≡ (a || b || c || d)
right_first a b c d = grind arith

left_first : (a b c d : Bool) → ((a || c) || (b || d)) ≡ (a || b || c || d)
left_first a b c d = grind arith

-- a word of even blocks
pub even_row_named : (window : ℕ → ℕ → Bool) (t : Tile) (new : Blocks) (j : ℕ) → j < 32 → ShowsTile window t → IsMade (λ _ own beside facing across. (own || facing) || (beside || across)) (even_row t j) new → (i : ℕ) → i < 32 → bit new.upper_left i ≡ is_walled_at 0 window (2 * i) (2 * j)
even_row_named window t new j k shows made i h =
    made.upper_left i h
    ∙ (left_first (bit (get_or t.even_even j 0) i) (bit (get_or t.odd_even j 0) i) (bit (get_or t.even_odd j 0) i) (bit (get_or t.odd_odd j 0) i)
    ∙ (cell_by (λ a b c d. a || b || c || d) _ _ _ _ _ _ _ _ (sym (ee_shown window t shows i j h k)) (sym (oe_shown window t shows i j h k)) (sym (eo_shown window t shows i j h k)) (sym (oo_shown window t shows i j h k))
    ∙ (block (2 * i + 1) (2 * j + 1) (2 * i + 2) (2 * j + 2) (omega arith) (omega arith) ∙ sym (ap₂ (is_block_walled window) (begins i) (begins j)))))
  where
    begins : (i : ℕ) → block_start 0 (2 * i) ≡ 2 * i + 1
    begins i = rw (eq-eqb ((2 * i + 0) % 2) 0 (omega arith)) refl

    block : (x y far_x far_y : ℕ) → x + 1 ≡ far_x → y + 1 ≡ far_y → (window x y || window far_x y || window x far_y || window far_x far_y) ≡ is_block_walled window x y
    block x y far_x far_y e f = rw (← e, ← f) refl

either_block : (some other : ℕ → ℕ → Bool) (x y : ℕ) → is_block_walled (either some other) x y ≡ (is_block_walled some x y || is_block_walled other x y)
either_block some other x y = grind arith

pub row_named : (window : ℕ → ℕ → Bool) (k y : ℕ) (new : Blocks) → y ≡ 2 * k → IsMadeOdd (λ own beside facing across. (own || facing) || (beside || across)) window y new → IsRowNamed window k new.upper_left new.upper_right
row_named window k y new e made = grind (arith, right_first)

-- with the blocks that other words name
pub row_joined : (some other : ℕ → ℕ → Bool) (k begin end more_begin more_end : ℕ) → IsRowNamed some k begin end → IsRowNamed other k more_begin more_end → IsRowNamed (either some other) k (bit_or begin more_begin) (bit_or end more_end)
row_joined some other k begin end more_begin more_end is more = grind (arith, bit-or, either_block)

pub even_joined : (some other : ℕ → ℕ → Bool) (x y word more i : ℕ) → bit word i ≡ is_walled_at 0 some x y → bit more i ≡ is_walled_at 0 other x y → bit (bit_or word more) i ≡ is_walled_at 0 (either some other) x y
even_joined some other x y word more i is others = bit-or word more i ∙ (ap₂ (λ a b. a || b) is others ∙ sym (walled_either 0 some other x y))

-- all of them, and each of all
pub all_named : (b : OddBlocks) (window : ℕ → ℕ → Bool) → ((k : ℕ) → k < 33 → IsRowNamed window k (get_or b.begin k 0) (get_or b.end k 0)) → AreOddBlocksOf b (is_walled_at 1 window)
all_named b window rows = grind (arith, odd_start, row_start, even_start)

pub each_named : (b : OddBlocks) (window : ℕ → ℕ → Bool) → AreOddBlocksOf b (is_walled_at 1 window) → (k : ℕ) → k < 33 → IsRowNamed window k (get_or b.begin k 0) (get_or b.end k 0)
each_named b window are k small =
    record {
      begins = λ i h. are.begin i k h small ∙ ap₂ (is_block_walled window) (odd_start i) (row_start k);
      ends = λ i h. are.end i k h small ∙ ap₂ (is_block_walled window) (even_start i) (row_start k);
    }

-- the words of rows from..n are made anew, and the others stay
pub record AreKept (from n : ℕ) (old new : List ℕ) : Type 0 where
  pub rest : (k : ℕ) → (k < from) ⊎ (n ≤ k) → get_or new k 0 ≡ get_or old k 0

pub kept_more : (from n w : ℕ) (old new : List ℕ) → from ≤ n → AreKept from n old new → AreKept from (n + 1) old (set new n w)
kept_more from n w old new up kept =
    record {
      rest = λ k there.
          get_or-set_other new n k w 0 (λ e. elim there [ inl below ↦ omega (arith, below, e, up) | inr above ↦ omega (arith, above, e) ])
          ∙ kept.rest k (elim there [ inl below ↦ inl below | inr above ↦ inr (omega (arith, above)) ]);
    }

-- one row more of those that are made
pub odd_more : (now : ℕ → ℕ → Bool) (begin end : List ℕ) (from n b e : ℕ) → n < length begin → n < length end → IsRowNamed now n b e → ((k : ℕ) → from ≤ k → k < n → IsRowNamed now k (get_or begin k 0) (get_or end k 0)) → (k : ℕ) → from ≤ k → k < n + 1 → IsRowNamed now k (get_or (set begin n b) k 0) (get_or (set end n e) k 0)
odd_more now begin end from n b e begin_long end_long here before k more below =
    elim (cases_eq k n) [
      | inl same ↦ rw (same, get_or-set_same begin n b 0 begin_long, get_or-set_same end n e 0 end_long) here
      | inr other ↦ rw (get_or-set_other begin n k b 0 other, get_or-set_other end n k e 0 other) (before k more (omega (arith, below, other)))
    ]

pub even_more : (words : List ℕ) (test : ℕ → ℕ → Bool) (from n w : ℕ) → n < length words → ((i : ℕ) → i < 32 → bit w i ≡ test i n) → ((i k : ℕ) → i < 32 → from ≤ k → k < n → bit (get_or words k 0) i ≡ test i k) → (i k : ℕ) → i < 32 → from ≤ k → k < n + 1 → bit (get_or (set words n w) k 0) i ≡ test i k
even_more words test from n w long here before i k h more below =
    elim (cases_eq k n) [
      | inl same ↦ rw (same, get_or-set_same words n w 0 long) (here i h)
      | inr other ↦ rw (get_or-set_other words n k w 0 other) (before i k h more (omega (arith, below, other)))
    ]

-- and one bit more of the word that tells of them: it is set, or cleared where there is none
module _ (b : TileBlocks) (row_pairs n : ℕ) (small : n < 32) (from : ℕ) (before : (k : ℕ) → from ≤ k → k < n → k < 32 → bit row_pairs k ≡ false → any_of b k ≡ 0) where
  pub told_some : (k : ℕ) → from ≤ k → k < n + 1 → k < 32 → bit (bit_or row_pairs (1 * 2 ^ n % 2 ^ 32)) k ≡ false → any_of b k ≡ 0
  told_some k more below _ e =
      elim (cases_eq k n) [
        | inl same ↦ let set = bit_of_set_same row_pairs n k small same in cc
        | inr other ↦ before k more (omega (arith, below, other)) (omega (arith, below, small)) (sym (bit_of_set_other row_pairs n k small other) ∙ e)
      ]

  pub told_none : any_of b n ≡ 0 → (k : ℕ) → from ≤ k → k < n + 1 → k < 32 → bit (bit_and row_pairs (bit_not w32 (1 * 2 ^ n % 2 ^ 32))) k ≡ false → any_of b k ≡ 0
  told_none none k more below row e =
      elim (cases_eq k n) [
        | inl same ↦ rw same none
        | inr other ↦ before k more (omega (arith, below, other)) row (sym (cleared k row other) ∙ e)
      ]
    where
      cleared : (k : ℕ) → k < 32 → (k ≡ n → ⊥) → bit (bit_and row_pairs (bit_not w32 (1 * 2 ^ n % 2 ^ 32))) k ≡ bit row_pairs k
      cleared k row other = bit_of_clear row_pairs n k small row ∙ rw (ne_eqb k n other) refl

pub rest_set : (row_pairs rows n k : ℕ) → n < 32 → (k ≡ n → ⊥) → bit row_pairs k ≡ bit rows k → bit (bit_or row_pairs (1 * 2 ^ n % 2 ^ 32)) k ≡ bit rows k
rest_set row_pairs rows n k small other same = bit_of_set_other row_pairs n k small other ∙ same

pub rest_cleared : (row_pairs rows n k : ℕ) → n < 32 → k < 32 → (k ≡ n → ⊥) → bit row_pairs k ≡ bit rows k → bit (bit_and row_pairs (bit_not w32 (1 * 2 ^ n % 2 ^ 32))) k ≡ bit rows k
rest_cleared row_pairs rows n k small row other same = bit_of_clear row_pairs n k small row ∙ rw (ne_eqb k n other) same

-- of windows that differ in some rows alone, the blocks elsewhere are the same
module _ (from end : ℕ) (before now : ℕ → ℕ → Bool) (differ : DifferInRows from end before now) where
  block_same : (x y : ℕ) → x ≤ 64 → y ≤ 64 → (y + 1 < 2 * from) ⊎ (2 * end ≤ y) → is_block_walled before x y ≡ is_block_walled now x y
  block_same x y h k far =
      cell_by (λ a b c d. a || b || c || d) _ _ _ _ _ _ _ _ (differ x y (omega arith) (omega arith) upper) (differ (x + 1) y (omega arith) (omega arith) upper) (differ x (y + 1) (omega arith) (omega arith) lower) (differ (x + 1) (y + 1) (omega arith) (omega arith) lower)
    where
      upper : (y < 2 * from) ⊎ (2 * end ≤ y)
      upper = elim far [ inl below ↦ inl (omega (arith, below)) | inr above ↦ inr above ]

      lower : (y + 1 < 2 * from) ⊎ (2 * end ≤ y + 1)
      lower = elim far [ inl below ↦ inl below | inr above ↦ inr (omega (arith, above)) ]

  row_same : (k begin end_word : ℕ) → k < 33 → (k < from) ⊎ (end ≤ k) → IsRowNamed before k begin end_word → IsRowNamed now k begin end_word
  row_same k begin end_word small far row =
      record {
        begins = λ i h. row.begins i h ∙ block_same (2 * i + 2) (2 * k) (omega arith) (omega arith) there;
        ends = λ i h. row.ends i h ∙ block_same (2 * i) (2 * k) (omega arith) (omega arith) there;
      }
    where
      there : (2 * k + 1 < 2 * from) ⊎ (2 * end ≤ 2 * k)
      there = elim far [ inl below ↦ inl (omega (arith, below)) | inr above ↦ inr (omega (arith, above)) ]

  start_within : (p x : ℕ) → (x ≤ block_start p x) × (block_start p x ≤ x + 1)
  start_within p x = elim (cases_eq ((x + p) % 2) 0) [ inl e ↦ rw (eq-eqb ((x + p) % 2) 0 e) (omega arith, omega arith) | inr e ↦ rw (ne_eqb ((x + p) % 2) 0 e) (omega arith, omega arith) ]

  -- the cells of two rows of the tile
  pub row_pair_same : (p x y : ℕ) → x < 64 → y < 64 → (y / 2 < from - 1) ⊎ (end ≤ y / 2) → is_walled_at p before x y ≡ is_walled_at p now x y
  row_pair_same p x y h k far =
      let across = start_within p x in
      let down = start_within p y in
      block_same (block_start p x) (block_start p y) (omega (arith, across.1, h)) (omega (arith, down.1, k)) (elim far [ inl below ↦ inl (omega (arith, below, down.1)) | inr above ↦ inr (omega (arith, above, down.0)) ])

  -- so their words stay
  pub odd_renewed : (old new : OddBlocks) (n : ℕ) → end ≤ n → AreKept from n old.begin new.begin → AreKept from n old.end new.end → ((k : ℕ) → from ≤ k → k < n → k < 33 → IsRowNamed now k (get_or new.begin k 0) (get_or new.end k 0)) → AreOddBlocksOf old (is_walled_at 1 before) → AreOddBlocksOf new (is_walled_at 1 now)
  odd_renewed old new n all begins ends made are =
      all_named new now
      (λ k small.
      elim (cases_lt k from) [
        | inl below ↦ kept k small (inl below) (inl below)
        | inr more ↦ elim (cases_lt k n) [
          | inl inside ↦ made k more inside small
          | inr above ↦ kept k small (inr (omega (arith, above, all))) (inr above)
        ]
      ])
    where
      kept : (k : ℕ) → k < 33 → (k < from) ⊎ (end ≤ k) → (k < from) ⊎ (n ≤ k) → IsRowNamed now k (get_or new.begin k 0) (get_or new.end k 0)
      kept k small far there = rw (begins.rest k there, ends.rest k there) (row_same k _ _ small far (each_named old before are k small))

  pub even_renewed : (old new : List ℕ) (n : ℕ) → ((m : ℕ) → m < 32 → n ≤ m → end ≤ m) → AreKept (from - 1) n old new → ((i k : ℕ) → i < 32 → from - 1 ≤ k → k < n → k < 32 → bit (get_or new k 0) i ≡ is_walled_at 0 now (2 * i) (2 * k)) → AreEvenBlocksOf old (is_walled_at 0 before) → AreEvenBlocksOf new (is_walled_at 0 now)
  even_renewed old new n all kept made are i j h k =
      elim (cases_lt j (from - 1)) [
        | inl below ↦ same (inl below) (inl below)
        | inr more ↦ elim (cases_lt j n) [
          | inl inside ↦ made i j h more inside k
          | inr above ↦ same (inr (all j k above)) (inr above)
        ]
      ]
    where
      same : (j < from - 1) ⊎ (end ≤ j) → (j < from - 1) ⊎ (n ≤ j) → bit (get_or new j 0) i ≡ is_walled_at 0 now (2 * i) (2 * j)
      same far there =
          let half : 2 * j / 2 ≡ j = omega arith in
          ap (λ w. bit w i) (kept.rest j there) ∙ (are i j h k ∙ row_pair_same 0 (2 * i) (2 * j) (omega arith) (omega arith) (rw half far))

  pub rows_renewed : (b : TileBlocks) (rows row_pairs n : ℕ) → ((m : ℕ) → m < 32 → n ≤ m → end ≤ m) → ((k : ℕ) → from - 1 ≤ k → k < n → k < 32 → bit row_pairs k ≡ false → any_of b k ≡ 0) → ((k : ℕ) → (k < from - 1) ⊎ (n ≤ k) → k < 32 → bit row_pairs k ≡ bit rows k)
      → AreEvenBlocksOf b.even (is_walled_at 0 now) → AreOddBlocksOf b.odd (is_walled_at 1 now) → ((p : ℕ) → p < 2 → TellsRows rows (λ x y. is_walled_at p before x y)) → (p : ℕ) → p < 2 → TellsRows row_pairs (λ x y. is_walled_at p now x y)
  rows_renewed b rows row_pairs n all made kept evens odds before_told p two x y h k e =
      elim (cases_lt (y / 2) (from - 1)) [
        | inl below ↦ same (inl below) (inl below)
        | inr more ↦ elim (cases_lt (y / 2) n) [
          | inl inside ↦ none_at b now evens odds p two x y h k (made (y / 2) more inside (omega arith) e)
          | inr above ↦ same (inr (all (y / 2) (omega arith) above)) (inr above)
        ]
      ]
    where
      same : (y / 2 < from - 1) ⊎ (end ≤ y / 2) → (y / 2 < from - 1) ⊎ (n ≤ y / 2) → is_walled_at p now x y ≡ false
      same far there = sym (row_pair_same p x y h k far) ∙ before_told p two x y h k (sym (kept (y / 2) there (omega arith)) ∙ e)
