-- Rows of a class that are filled or emptied, and how many cells change.
use Rattle.std.proofs.Common.{◌≡◌, ℕ, zero, suc, ◌+◌, ◌-◌, ◌^◌, ◌<◌, ◌≤◌, ◌&&◌, Bool, true, false, if◌then◌else◌, nat_le, nat_lt, bit_and, bit_xor, List, get_or, set, get_or-set_other, sym, ◌∙◌, ap, ap₂, ◌*◌, arith}
use Rattle.std.proofs.lemmas.Bool.Decides.{nat_tests}
use Rattle.std.proofs.lemmas.Nat.{and_le_r, ones-le}
use Rattle.std.specs.Int.RustNames.{count_ones}
use Rattle.bit_tile.specs.Bit.{bit}
use Rattle.bit_tile.specs.Sums.{sum_below, count_below}
use Rattle.bit_tile.specs.Tile.{cell_changes, is_among_rows}
use Rattle.bit_tile.proofs.Bits.{bit-and, bit-xor, either}
use Rattle.bit_tile.proofs.Classes.{IsClass, bounds_of, starts}
use Rattle.bit_tile.proofs.Counts.{counted_of_class, class}
use Rattle.bit_tile.proofs.Sums.{sum_below-same, sum_below-bound, sum_below-suc, sum_below-more, count_below-same, count_below-none, ones_are_bits}

pub reached : (first j : ℕ) → first ≤ j → nat_le first j ≡ true
reached first j h = grind (arith, nat_tests)

-- the cells of a row that change, and what the row is then
flips : (was held column : Bool) → (either was held && column) ≡ (column && cell_changes held was)
flips was held column = grind arith

flipped : (was held column : Bool) → either was (column && cell_changes held was) ≡ (if column then held else was)
flipped was held column = grind arith

module _ (row word flip : ℕ) (held : Bool) (all : (i : ℕ) → i < 32 → bit flip i ≡ held) where
  pub changed_bit : (i : ℕ) → i < 32 → bit (bit_and (bit_xor row flip) word) i ≡ (bit word i && cell_changes held (bit row i))
  changed_bit i h =
      bit-and (bit_xor row flip) word i
      ∙ (ap (λ b. b && bit word i) (bit-xor row flip i ∙ ap (either (bit row i)) (all i h))
      ∙ flips (bit row i) held (bit word i))

  pub row_bit : (i : ℕ) → i < 32 → bit (bit_xor row (bit_and (bit_xor row flip) word)) i ≡ (if bit word i then held else bit row i)
  row_bit i h =
      bit-xor row (bit_and (bit_xor row flip) word) i
      ∙ (ap (either (bit row i)) (changed_bit i h) ∙ flipped (bit row i) held (bit word i))

  pub changed_fits : word < 2 ^ 32 → bit_and (bit_xor row flip) word < 2 ^ 32
  changed_fits fits = omega (arith, and_le_r (bit_xor row flip) word)

  pub changed_count : word < 2 ^ 32 → count_ones (bit_and (bit_xor row flip) word) ≡ count_below 32 (λ i. bit word i && cell_changes held (bit row i))
  changed_count fits = ones_are_bits (bit_and (bit_xor row flip) word) 32 (changed_fits fits) ∙ count_below-same 32 _ _ changed_bit

  pub changed_few : word < 2 ^ 32 → count_ones (bit_and (bit_xor row flip) word) ≤ 32
  changed_few fits = ones-le 32 (bit_and (bit_xor row flip) word) (changed_fits fits)

-- rows of which no cell passes a test count 0
pub none_in_row : (test : ℕ → Bool) → ((i : ℕ) → i < 32 → test i ≡ false) → count_below 32 test ≡ 0
none_in_row test none = count_below-same 32 test (λ _. false) none ∙ count_below-none 32

pub none_before : (n : ℕ) (f : ℕ → ℕ) → ((k : ℕ) → k < n → f k ≡ 0) → 0 ≡ sum_below n f
none_before n f none =
    let least = sum_below-bound n 0 f (λ k h. omega (arith, none k h)) in
    omega arith

none_after : (j n : ℕ) (f : ℕ → ℕ) → ((k : ℕ) → j ≤ k → k < j + n → f k ≡ 0) → sum_below (j + n) f ≡ sum_below j f
none_after j zero f none = ap (λ m. sum_below m f) (omega arith)
none_after j (suc n) f none =
    let next : j + suc n ≡ suc (j + n) = omega arith in
    ap (λ m. sum_below m f) next
    ∙ omega (arith, sum_below-suc (j + n) f, none_after j n f (λ k h l. none k h (omega arith)), none (j + n) (omega arith) (omega arith))

pub one_row_more : (n j more : ℕ) (f : ℕ → ℕ) → n ≡ sum_below j f → more ≡ f j → n + more ≡ sum_below (j + 1) f
one_row_more n j more f so_far here = omega (arith, so_far, here, sum_below-more j f)

-- a sum over the first rows is that over all, if the others have nothing
pub sum_of_all : (j : ℕ) (f g : ℕ → ℕ) → j ≤ 32 → ((k : ℕ) → k < j → f k ≡ g k) → ((k : ℕ) → j ≤ k → k < 32 → g k ≡ 0) → sum_below j f ≡ sum_below 32 g
sum_of_all j f g few same none =
    let whole : j + (32 - j) ≡ 32 = omega arith in
    sum_below-same j f g same
    ∙ (sym (none_after j (32 - j) g (λ k h l. none k h (omega arith))) ∙ ap (λ m. sum_below m g) whole)

-- the test of a row of the rectangle, of one above it and of one below it
among : (word first end i k : ℕ) (b : Bool) → k < end → ((bit word i && nat_le first k) && b) ≡ (is_among_rows word first end i k && b)
among word first end i k b h = grind (arith, nat_tests)

pub below_end : (word first end i k : ℕ) (b : Bool) → end ≤ k → (is_among_rows word first end i k && b) ≡ false
below_end word first end i k b h = grind (arith, nat_tests)

pub above_first : (word first i k : ℕ) (b : Bool) → k < first → ((bit word i && nat_le first k) && b) ≡ false
above_first word first i k b h = grind (arith, nat_tests)

in_row : (column from a b : Bool) → from ≡ true → a ≡ b → (column && a) ≡ ((column && from) && b)
in_row column from a b e f = grind arith

-- a row that is written leaves those below it
pub kept_below : (rows : List ℕ) (j w k : ℕ) → j + 1 ≤ k → get_or (set rows j w) k 0 ≡ get_or rows k 0
kept_below rows j w k h = grind (arith, get_or-set_other)

-- above the first row all is as it was, and in a row from there on the word tells
pub before_first : (word first i k : ℕ) (held was : Bool) → k < first → was ≡ (if bit word i && nat_le first k then held else was)
before_first word first i k held was h = grind (arith, nat_tests)

pub row_is : (word first i j : ℕ) (held : Bool) (row old : ℕ) → first ≤ j → row ≡ old → (if bit word i then held else bit row i) ≡ (if bit word i && nat_le first j then held else bit old i)
row_is word first i j held row old h e = grind (arith, nat_tests)

pub of_row : (word first j : ℕ) (held : Bool) (row old : ℕ) → first ≤ j → row ≡ old
    → count_below 32 (λ i. bit word i && cell_changes held (bit row i)) ≡ count_below 32 (λ i. (bit word i && nat_le first j) && cell_changes held (bit old i))
of_row word first j held row old h e = count_below-same 32 _ _ (λ i _. in_row (bit word i) (nat_le first j) (cell_changes held (bit row i)) _ (reached first j h) (ap (λ w. cell_changes held (bit w i)) e))

pub counts_of_all : (word first end j : ℕ) (changes : ℕ → ℕ → Bool) → j ≤ 32 → j ≡ end
    → sum_below j (λ k. count_below 32 (λ i. (bit word i && nat_le first k) && changes i k)) ≡ sum_below 32 (λ k. count_below 32 (λ i. is_among_rows word first end i k && changes i k))
counts_of_all word first end j changes few is =
    sum_of_all j _ _ few (λ k h. count_below-same 32 _ _ (λ i _. among word first end i k (changes i k) (omega arith)))
    (λ k h _. none_in_row _ (λ i _. below_end word first end i k (changes i k) (omega arith)))

-- the cells of a rectangle in a class, whose first cell is (p, q)
module _ (word p q x y z v : ℕ) (p_two : p < 2) (q_two : q < 2) (is_word : (i : ℕ) → i < 32 → bit word i ≡ (nat_le (starts p x) i && nat_lt i (starts p z))) where
  in_rect : (i j : ℕ) → i < 32 → is_among_rows word (starts q y) (starts q v) i j ≡ (nat_le x (2 * i + p) && nat_lt (2 * i + p) z && nat_le y (2 * j + q) && nat_lt (2 * j + q) v)
  in_rect i j h = grind (arith, bounds_of)

  pub class_is_set : (old new : List ℕ) (held : Bool) (test : ℕ → ℕ → Bool) → IsClass old p q test
      → ((i j : ℕ) → i < 32 → j < 32 → bit (get_or new j 0) i ≡ (if is_among_rows word (starts q y) (starts q v) i j then held else bit (get_or old j 0) i))
      → IsClass new p q (λ i j. if nat_le x i && nat_lt i z && nat_le y j && nat_lt j v then held else test i j)
  class_is_set old new held test is cells i j h k =
      cells i j h k ∙ (ap (λ b. if b then held else bit (get_or old j 0) i) (in_rect i j h) ∙ ap (λ b. if nat_le x (2 * i + p) && nat_lt (2 * i + p) z && nat_le y (2 * j + q) && nat_lt (2 * j + q) v then held else b) (is i j h k))

  pub changes_of_class : (old : List ℕ) (held : Bool) (test : ℕ → ℕ → Bool) (n : ℕ) → IsClass old p q test
      → n ≡ sum_below 32 (λ j. count_below 32 (λ i. is_among_rows word (starts q y) (starts q v) i j && cell_changes held (bit (get_or old j 0) i)))
      → n ≡ class (λ i j. (nat_le x i && nat_lt i z && nat_le y j && nat_lt j v) && cell_changes held (test i j)) p q
  changes_of_class old held test n is counted =
      counted_of_class (λ i j. is_among_rows word (starts q y) (starts q v) i j && cell_changes held (bit (get_or old j 0) i)) _ p q n p_two q_two counted
      (λ i j h k. ap₂ (λ a b. a && cell_changes held b) (in_rect i j h) (is i j h k))
