-- What is put back in walled blocks, and what it gives.
use Rattle.std.proofs.Common.{◌≡◌, ℕ, ◌+◌, ◌-◌, ◌*◌, ◌/◌, ◌%◌, ◌^◌, ◌<◌, ◌≤◌, Bool, true, false, not, ◌&&◌, List, get_or, sym, ◌∙◌, ap, ap₂, arith, bit_and}
use Rattle.std.specs.Prelude.{pos, ◌-ℤ◌, ℤ}
use Rattle.std.proofs.lemmas.Int.{ints}
use mir.Val.{to_z, of_z}
use Rattle.std.specs.Int.{w64}
use Rattle.std.specs.Int.RustNames.{count_ones}
use Rattle.std.proofs.lemmas.Nat.{and_le_l}
use Rattle.std.proofs.lemmas.Bool.{cases_eq, eq-eqb, ne_eqb, and_right}
use Rattle.bit_tile.specs.Bit.{bit}
use Rattle.bit_tile.specs.Sums.{sum_below, count_below}
use Rattle.bit_tile.specs.Tile.{has, HasCells}
use Rattle.bit_tile.specs.declared.Tile.{Tile}
use Rattle.bit_tile.proofs.Bits.{bit-zero, bit-and, bit-shr, bit_of_low}
use Rattle.bit_tile.proofs.Sums.{sum_below-more, sum_below-same, count_below-same}
use Rattle.bit_tile.proofs.Counts.{class_count, ones_of_two}
use Rattle.bit_tile.proofs.Classes.{IsClass}
use Rattle.gas_terms.specs.declared.accounts.Pair.{Pair}
use Rattle.block_rule.specs.Accounts.{if_counted, counted_of}
use Rattle.block_rule.specs.declared.walled.Counted.{Counted}
use Rattle.block_rule.specs.Around.{block_start, turned_window, none, is_walled_at, is_for_walls, twice_momentum_in, taken_in_tile}
use Rattle.block_rule.specs.Cell.{turned_cell, turned_at, made}
use Rattle.block_rule.specs.Classes.{class, AreClassCounts}
use Rattle.block_rule.specs.Shown.{HasNoCell}
use Rattle.block_rule.specs.declared.count.Classes.{Classes}
use Rattle.block_rule.proofs.Around.{turned_by_cells}
use Rattle.gas_terms.specs.declared.accounts.Took.{Took}
use Rattle.block_rule.proofs.Took.{pair, twice_momentum_in-same, twice_momentum_in-none, pair_same, accounts_same, right_count, left_count, down_count, up_count}

-- how many of a row's cells are in places
abbrev pub among : List ℕ → List ℕ → ℕ → ℕ
among old places k = count_below 32 (λ i. bit (get_or old k 0) i && bit (get_or places k 0) i)

-- the ones that two words have, each of two rows
pub ones_among : (cells there : ℕ) (old places : List ℕ) (j : ℕ) → cells < 2 ^ 64 → ((i : ℕ) → i < 32 → bit cells i ≡ bit (get_or old j 0) i) → ((i : ℕ) → i < 32 → bit cells (32 + i) ≡ bit (get_or old (j + 1) 0) i)
    → ((i : ℕ) → i < 32 → bit there i ≡ bit (get_or places j 0) i) → ((i : ℕ) → i < 32 → bit there (32 + i) ≡ bit (get_or places (j + 1) 0) i) → count_ones (bit_and cells there) ≡ among old places j + among old places (j + 1)
ones_among cells there old places j fits first second first_there second_there = grind (arith, ones_of_two, and_le_l, bit-and)

-- those of two rows more
pub counted_rows_more : (old places : List ℕ) (n more j : ℕ) → n ≡ sum_below j (among old places) → more ≡ among old places j + among old places (j + 1) → n + more ≡ sum_below (j + 1 + 1) (among old places)
counted_rows_more old places n more j so_far here = grind (arith, sum_below-more)

-- rows of which a word tells nothing
pub not_told : (rows from n : ℕ) → rows / 2 ^ from % 2 ^ n ≡ 0 → (j : ℕ) → from ≤ j → j < from + n → bit rows j ≡ false
not_told rows from n e j low high =
    let same : j ≡ from + (j - from) = omega arith in
    ap (bit rows) same
    ∙ (sym (bit-shr rows from (j - from))
    ∙ (sym (bit_of_low (rows / 2 ^ from) n (j - from) (omega arith)) ∙ rw e (bit-zero (j - from))))

-- the particles of a class in these places
pub class_among : (old places : List ℕ) (p q n : ℕ) (had there : ℕ → ℕ → Bool) → p < 2 → q < 2 → IsClass old p q had → IsClass places p q there → n ≡ sum_below 32 (among old places) → n ≡ class (λ x y. had x y && there x y) p q
class_among old places p q n had there p_two q_two is_old is_places counted =
    counted
    ∙ (sum_below-same 32 _ _ (λ k in_column. count_below-same 32 _ (λ i. had (2 * i + p) (2 * k + q) && there (2 * i + p) (2 * k + q)) (λ i in_row. ap₂ (λ a b. a && b) (is_old i k in_row in_column) (is_places i k in_row in_column)))
    ∙ sym (class_count (λ x y. had x y && there x y) p q p_two q_two))

-- the momentum of counts, at either parity
pub small_again : (v : ℤ) (r l : ℕ) → r ≤ 2048 → l ≤ 2048 → v ≡ pos (2 * r) -ℤ pos (2 * l) → to_z w64 (of_z w64 v) ≡ pos (2 * r) -ℤ pos (2 * l)
small_again v r l r_small l_small is = rw is (omega (arith, ints))

difference_of : (r s m n : ℕ) → r ≡ m → s ≡ n → pos (2 * r) -ℤ pos (2 * s) ≡ pos (2 * m) -ℤ pos (2 * n)
difference_of r s m n e f = rw (e, f)

module _ (c : Classes) (cells : ℕ → ℕ → Bool) (is : AreClassCounts c cells) (p : ℕ) (two : p < 2) where
  -- the particles of columns and rows of one parity
  abbrev columns : ℕ → ℕ
  columns i = class cells i 0 + class cells i 1

  abbrev rows : ℕ → ℕ
  rows j = class cells 0 j + class cells 1 j

  pub momentum_is : (right left down up : ℕ) → right ≡ columns p → left ≡ columns (1 - p) → down ≡ rows p → up ≡ rows (1 - p) →
      (x y : ℤ) → x ≡ pos (2 * right) -ℤ pos (2 * left) → y ≡ pos (2 * down) -ℤ pos (2 * up) → (let r : Pair = record { x = x; y = y } in r) ≡ twice_momentum_in p cells
  momentum_is right left down up is_right is_left is_down is_up x y x_is y_is =
      pair_same _ _ _ _
      (x_is ∙ difference_of right left _ _ (is_right ∙ sym (right_count cells p two)) (is_left ∙ sym (left_count cells p two)))
      (y_is ∙ difference_of down up _ _ (is_down ∙ sym (down_count cells p two)) (is_up ∙ sym (up_count cells p two)))

-- a tile without walled blocks
pub turned_of_free : (p : ℕ) (out : Tile) (window solid : ℕ → ℕ → Bool) → HasNoCell (is_walled_at p solid) → HasCells out (made (turned_cell false) p window) → HasCells out (turned_window p window solid)
turned_of_free p out window solid none is x y h k =
    is x y h k ∙ (ap (λ w. turned_at p window w x y) (sym (none x y h k)) ∙ sym (turned_by_cells p window (is_walled_at p solid x y) x y))

-- what is taken
pub none_took : (p : ℕ) (tile : Tile) (test : ℕ → ℕ → Bool) → HasNoCell test → pair (pos 0) (pos 0) ≡ twice_momentum_in p (λ x y. has tile x y && test x y)
none_took p tile test none = twice_momentum_in-none p _ (λ x y h k. and_right (has tile x y) (test x y) (none x y h k))

joined_tests : (t w o : Bool) → (t && (w && not o)) ≡ (t && w && not o)
joined_tests t w o = grind arith

pub both_took : (p : ℕ) (tile : Tile) (walled obstructed : ℕ → ℕ → Bool) (c : Counted) (a b : Pair) → a ≡ if_counted c.walls (twice_momentum_in p (λ x y. has tile x y && is_for_walls p walled obstructed x y))
    → b ≡ if_counted c.obstacles (twice_momentum_in p (λ x y. has tile x y && is_walled_at p obstructed x y)) → (let r : Took = record { walls = a; obstacles = b } in r) ≡ counted_of c (taken_in_tile p tile walled obstructed)
both_took p tile walled obstructed c a b of_walls of_obstacles =
    accounts_same _ _ _ _
    (of_walls ∙ ap (if_counted c.walls) (twice_momentum_in-same p _ _ (λ x y h k. joined_tests (has tile x y) (is_walled_at p walled x y) (is_walled_at p obstructed x y))))
    of_obstacles

pub is_counted : (counted : Bool) (p q : Pair) → counted ≡ true → p ≡ q → p ≡ if_counted counted q
is_counted true p q e f = f
is_counted false p q e f = cc

-- blocks that begin at even columns and rows
block_begins : (x : ℕ) → block_start 0 x ≡ 2 * (x / 2) + 1
block_begins x = grind (arith, cases_eq, eq-eqb, ne_eqb)

pub same_block : (x : ℕ) → block_start 0 (2 * (x / 2)) ≡ block_start 0 x
same_block x = block_begins (2 * (x / 2)) ∙ (let e : 2 * (2 * (x / 2) / 2) + 1 ≡ 2 * (x / 2) + 1 = omega arith in e ∙ sym (block_begins x))

-- a tile of which the rule spares walled blocks
pub turned_of_spared : (window solid : ℕ → ℕ → Bool) (out : Tile) → HasCells out (λ x y. turned_at 0 window (is_walled_at 0 solid (2 * (x / 2)) (2 * (y / 2))) x y) → HasCells out (turned_window 0 window solid)
turned_of_spared window solid out is x y h k = grind (arith, same_block, turned_by_cells)
