-- Rectangles that are filled or emptied one after another, and how many cells change.
use Rattle.std.proofs.Common.{◌≡◌, ℕ, ◌+◌, ◌*◌, ◌/◌, ◌%◌, ◌<◌, ◌≤◌, ◌==◌, ◌&&◌, ◌||◌, not, Bool, if◌then◌else◌, List, get_or, sym, ◌∙◌, ap, ap₂, arith}
use Rattle.bit_tile.specs.Tile.{count_cells, cell_changes}
use Rattle.bit_tile.proofs.Counts.{cells_same, cells-split, class, whole_class}
use Rattle.phase_step.specs.Counts.{AreTileCounts}

-- a cell is filled or emptied by the rectangles so far, or by the next one
pub set_by_either : (done here held was : Bool) → (if here then held else if done then held else was) ≡ (if done || here then held else was)
set_by_either done here held was = grind arith

-- of those that change, some have changed before, and the others change here
pub before_here : (done here held was : Bool) → (((done || here) && cell_changes held was) && done) ≡ (done && cell_changes held was)
before_here done here held was = grind arith

pub only_here : (done here held was : Bool) → (((done || here) && cell_changes held was) && not done) ≡ (here && cell_changes held (if done then held else was))
only_here done here held was = grind arith

in_part : (h column row r : Bool) → (((h && column) && row) && r) ≡ (((h && r) && column) && row)
in_part h column row r = grind arith

class_in_parts : (f g h r : ℕ → ℕ → Bool) (a b : ℕ) → ((x y : ℕ) → x < 64 → y < 64 → (h x y && r x y) ≡ f x y) → ((x y : ℕ) → x < 64 → y < 64 → (h x y && not (r x y)) ≡ g x y) → class h a b ≡ class f a b + class g a b
class_in_parts f g h r a b first second =
    cells-split (λ x y. h x y && x % 2 == a && y % 2 == b) r
    ∙ ap₂ (λ m n. m + n)
    (cells_same _ _ (λ x y p q. in_part (h x y) (x % 2 == a) (y % 2 == b) (r x y) ∙ ap (λ e. e && x % 2 == a && y % 2 == b) (first x y p q)))
    (cells_same _ _ (λ x y p q. in_part (h x y) (x % 2 == a) (y % 2 == b) (not (r x y)) ∙ ap (λ e. e && x % 2 == a && y % 2 == b) (second x y p q)))

class_few : (h : ℕ → ℕ → Bool) (a b : ℕ) → a < 2 → b < 2 → class h a b ≤ 2048
class_few h a b p q = omega (arith, whole_class h a b p q)

pub joined_counts : (counts more sum : List ℕ) (f g h r : ℕ → ℕ → Bool) → AreTileCounts counts f
    → ((a b : ℕ) → a < 2 → b < 2 → get_or more (2 * b + a) 0 ≡ count_cells (λ x y. g x y && x % 2 == a && y % 2 == b))
    → ((k : ℕ) → k < 4 → get_or sum k 0 ≡ get_or counts k 0 + get_or more k 0)
    → ((x y : ℕ) → x < 64 → y < 64 → (h x y && r x y) ≡ f x y)
    → ((x y : ℕ) → x < 64 → y < 64 → (h x y && not (r x y)) ≡ g x y)
    → AreTileCounts sum h
joined_counts counts more sum f g h r are here is first second =
    let count : (a b : ℕ) → a < 2 → b < 2 → get_or sum (2 * b + a) 0 ≡ class h a b = λ a b p q.
    is (2 * b + a) (omega arith) ∙ (ap₂ (λ m n. m + n) (are.count a b p q) (here a b p q) ∙ sym (class_in_parts f g h r a b first second)) in
    record {
      count = count;
      few = λ k within.
          let place : k ≡ 2 * (k / 2) + k % 2 = omega arith in
          let there : get_or sum k 0 ≡ class h (k % 2) (k / 2) = ap (λ i. get_or sum i 0) place ∙ count (k % 2) (k / 2) (omega arith) (omega arith) in
          omega (arith, there, class_few h (k % 2) (k / 2) (omega arith) (omega arith));
    }
