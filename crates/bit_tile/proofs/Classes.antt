-- Cells by their classes.
use Rattle.std.proofs.Common.{◌≡◌, ℕ, ◌+◌, ◌*◌, ◌/◌, ◌%◌, ◌<◌, ◌==◌, ◌&&◌, ◌⊎◌, nat_le, nat_lt, zero, suc, if◌then◌else◌, Bool, true, false, List, length, get_or, set, refl, sym, ◌∙◌, ap₂, arith, inl, inr, get_or-set_other, get_or-set_same}
use Rattle.std.proofs.lemmas.Bool.{cases_eq, eq-eqb, ne_eqb}
use Rattle.std.proofs.lemmas.Bool.Decides.{nat_tests}
use Rattle.bit_tile.specs.Bit.{bit}
use Rattle.bit_tile.specs.Tile.{has, HasCells}
use Rattle.bit_tile.specs.declared.Tile.{Tile}

-- a cell of each class
module _ (t : Tile) (x y : ℕ) where
  pub in_even_even : x % 2 ≡ 0 → y % 2 ≡ 0 → has t x y ≡ bit (get_or t.even_even (y / 2) 0) (x / 2)
  unfolding has
  in_even_even h k = rw (eq-eqb (x % 2) 0 h, eq-eqb (y % 2) 0 k)

  pub in_odd_even : x % 2 ≡ 1 → y % 2 ≡ 0 → has t x y ≡ bit (get_or t.odd_even (y / 2) 0) (x / 2)
  unfolding has
  in_odd_even h k = let e : (x % 2 == 0) ≡ false = ne_eqb (x % 2) 0 (λ e. omega arith) in rw (e, eq-eqb (y % 2) 0 k)

  pub in_even_odd : x % 2 ≡ 0 → y % 2 ≡ 1 → has t x y ≡ bit (get_or t.even_odd (y / 2) 0) (x / 2)
  unfolding has
  in_even_odd h k = let e : (y % 2 == 0) ≡ false = ne_eqb (y % 2) 0 (λ e. omega arith) in rw (eq-eqb (x % 2) 0 h, e)

  pub in_odd_odd : x % 2 ≡ 1 → y % 2 ≡ 1 → has t x y ≡ bit (get_or t.odd_odd (y / 2) 0) (x / 2)
  unfolding has
  in_odd_odd h k = grind (arith, ne_eqb)

-- a row of cells, by columns
pub row_even : (t : Tile) (x y : ℕ) → y % 2 ≡ 0 → (if x % 2 == 0 then bit (get_or t.even_even (y / 2) 0) (x / 2) else bit (get_or t.odd_even (y / 2) 0) (x / 2)) ≡ has t x y
row_even t x y k = grind (arith, cases_eq, eq-eqb, in_even_even, ne_eqb, in_odd_even)

pub row_odd : (t : Tile) (x y : ℕ) → y % 2 ≡ 1 → (if x % 2 == 0 then bit (get_or t.even_odd (y / 2) 0) (x / 2) else bit (get_or t.odd_odd (y / 2) 0) (x / 2)) ≡ has t x y
row_odd t x y k = grind (arith, cases_eq, eq-eqb, in_even_odd, ne_eqb, in_odd_odd)

-- the word's bit i of row j
bit_at_place : (rows : List ℕ) (i j k m : ℕ) → i ≡ k → j ≡ m → bit (get_or rows j 0) i ≡ bit (get_or rows m 0) k
bit_at_place rows i j k m e f = ap₂ (λ a b. bit (get_or rows b 0) a) e f

module _ (t : Tile) (i j : ℕ) where
  pub even_even_at : has t (2 * i) (2 * j) ≡ bit (get_or t.even_even j 0) i
  even_even_at = in_even_even t (2 * i) (2 * j) (omega arith) (omega arith) ∙ bit_at_place t.even_even _ _ i j (omega arith) (omega arith)

  pub odd_even_at : has t (2 * i + 1) (2 * j) ≡ bit (get_or t.odd_even j 0) i
  odd_even_at = in_odd_even t (2 * i + 1) (2 * j) (omega arith) (omega arith) ∙ bit_at_place t.odd_even _ _ i j (omega arith) (omega arith)

  pub even_odd_at : has t (2 * i) (2 * j + 1) ≡ bit (get_or t.even_odd j 0) i
  even_odd_at = in_even_odd t (2 * i) (2 * j + 1) (omega arith) (omega arith) ∙ bit_at_place t.even_odd _ _ i j (omega arith) (omega arith)

  pub odd_odd_at : has t (2 * i + 1) (2 * j + 1) ≡ bit (get_or t.odd_odd j 0) i
  odd_odd_at = in_odd_odd t (2 * i + 1) (2 * j + 1) (omega arith) (omega arith) ∙ bit_at_place t.odd_odd _ _ i j (omega arith) (omega arith)

-- the rows of a class have the cells that the test says, the class's first cell being (p, q)
abbrev pub IsClass : List ℕ → ℕ → ℕ → (ℕ → ℕ → Bool) → Type 0
IsClass rows p q test = (i j : ℕ) → i < 32 → j < 32 → bit (get_or rows j 0) i ≡ test (2 * i + p) (2 * j + q)

-- a tile has the cells that each of its classes has
pub by_class : (t : Tile) (test : ℕ → ℕ → Bool) → IsClass t.even_even 0 0 test → IsClass t.odd_even 1 0 test → IsClass t.even_odd 0 1 test → IsClass t.odd_odd 1 1 test → HasCells t test
by_class t test ee oe eo oo x y in_row in_column = grind (arith, cases_eq, in_even_even, in_even_odd, in_odd_even, in_odd_odd)

-- the cells of a tile's classes
module _ (t : Tile) where
  pub is_even_even : IsClass t.even_even 0 0 (has t)
  is_even_even i j _ _ = sym (even_even_at t i j) ∙ ap₂ (has t) (omega arith) (omega arith)

  pub is_odd_even : IsClass t.odd_even 1 0 (has t)
  is_odd_even i j _ _ = sym (odd_even_at t i j) ∙ ap₂ (has t) (omega arith) (omega arith)

  pub is_even_odd : IsClass t.even_odd 0 1 (has t)
  is_even_odd i j _ _ = sym (even_odd_at t i j) ∙ ap₂ (has t) (omega arith) (omega arith)

  pub is_odd_odd : IsClass t.odd_odd 1 1 (has t)
  is_odd_odd i j _ _ = sym (odd_odd_at t i j) ∙ ap₂ (has t) (omega arith) (omega arith)

-- one cell of a class is put in or taken out
in_other_row : (t a b : Bool) → b ≡ (if t && false then a else b)
in_other_row t a b = grind arith

pub cell_set : (rows : List ℕ) (x y w : ℕ) (held : Bool) → y < length rows → ((i : ℕ) → i < 32 → bit w i ≡ (if i == x then held else bit (get_or rows y 0) i)) → (i j : ℕ) → i < 32 → bit (get_or (set rows y w) j 0) i ≡ (if i == x && j == y then held else bit (get_or rows j 0) i)
cell_set rows x y w held within here i j in_row = grind (arith, cases_eq, get_or-set_same, eq-eqb, get_or-set_other, ne_eqb, in_other_row)

other_place : (i x p : ℕ) → p < 2 → (x % 2 ≡ p → ⊥) → (2 * i + p == x) ≡ false
other_place i x p two h = ne_eqb (2 * i + p) x (λ e. h (omega arith))

not_there : (a b : Bool) (u v : Bool) → (a ≡ false) ⊎ (b ≡ false) → v ≡ (if a && b then u else v)
not_there true true u v (inl e) = absurd (cc)
not_there true true u v (inr e) = absurd (cc)
not_there true false u v _ = refl
not_there false b u v _ = refl

-- the class of the cell that is set, and the others
pub class_set : (rows new : List ℕ) (p q x y : ℕ) (held : Bool) (test : ℕ → ℕ → Bool) → x % 2 ≡ p → y % 2 ≡ q → IsClass rows p q test → ((k m : ℕ) → k < 32 → bit (get_or new m 0) k ≡ (if k == x / 2 && m == y / 2 then held else bit (get_or rows m 0) k)) → IsClass new p q (λ i j. if i == x && j == y then held else test i j)
class_set rows new p q x y held test h k is new_is i j in_row in_column = grind arith

pub class_kept : (rows : List ℕ) (p q x y : ℕ) (held : Bool) (test : ℕ → ℕ → Bool) → p < 2 → q < 2 → (x % 2 ≡ p → ⊥) ⊎ (y % 2 ≡ q → ⊥) → IsClass rows p q test → IsClass rows p q (λ i j. if i == x && j == y then held else test i j)
class_kept rows p q x y held test p_two q_two (inl other) is i j in_row in_column =
    is i j in_row in_column ∙ not_there _ (2 * j + q == y) held _ (inl (other_place i x p p_two other))
class_kept rows p q x y held test p_two q_two (inr other) is i j in_row in_column =
    is i j in_row in_column ∙ not_there (2 * i + p == x) _ held _ (inr (other_place j y q q_two other))

-- a loop has written the rows below j, as the test says, and writes row j
pub rows_more : (rows : List ℕ) (j w : ℕ) (test : ℕ → ℕ → Bool) → j < length rows → ((i k : ℕ) → k < j → bit (get_or rows k 0) i ≡ test i k) → ((i : ℕ) → bit w i ≡ test i j) → (i k : ℕ) → k < j + 1 → bit (get_or (set rows j w) k 0) i ≡ test i k
rows_more rows j w test within before here i k below = grind (arith, cases_eq, get_or-set_same, get_or-set_other)

-- where a class begins and ends of what is from x up to z
from_odd : (x i : ℕ) → nat_le (x / 2) i ≡ nat_le x (2 * i + 1)
from_odd x i = grind (arith, nat_tests)

to_even : (z i : ℕ) → nat_lt i ((z + 1) / 2) ≡ nat_lt (2 * i + 0) z
to_even z i = grind (arith, nat_tests)

to_odd : (z i : ℕ) → nat_lt i (z / 2) ≡ nat_lt (2 * i + 1) z
to_odd z i = grind (arith, nat_tests)

-- the places of class p that are from x up to z
abbrev pub starts : ℕ → ℕ → ℕ
starts zero x = (x + 1) / 2
starts (suc _) x = x / 2

pub bounds_of : (p x z i : ℕ) → p < 2 → (nat_le (starts p x) i && nat_lt i (starts p z)) ≡ (nat_le x (2 * i + p) && nat_lt (2 * i + p) z)
bounds_of p x z i two = grind (arith, cases_eq, to_even, from_odd, to_odd)

pub rows_more_within : (rows : List ℕ) (j w : ℕ) (test : ℕ → ℕ → Bool) → j < length rows → ((i k : ℕ) → i < 32 → k < j → bit (get_or rows k 0) i ≡ test i k) → ((i : ℕ) → i < 32 → bit w i ≡ test i j) → (i k : ℕ) → i < 32 → k < j + 1 → bit (get_or (set rows j w) k 0) i ≡ test i k
rows_more_within rows j w test within before here i k in_row below = grind (arith, cases_eq, get_or-set_same, get_or-set_other)
