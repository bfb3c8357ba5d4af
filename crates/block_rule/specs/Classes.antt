use Rattle.std.specs.Prelude.{◌≡◌, ℕ, ◌%◌, ◌≤◌, ◌==◌, Bool, ◌&&◌, List, slice_index}
use Rattle.bit_tile.specs.Bit.{bit}
use Rattle.bit_tile.specs.Sums.{sum_below, count_below}
use Rattle.bit_tile.specs.Tile.{count_cells}
use Rattle.block_rule.specs.declared.count.Classes.{Classes}

-- none of the four counts is above n
pub record HasAtMost (n : ℕ) (c : Classes) : Type 0 where
  pub even_even : c.even_even ≤ n
  pub odd_even : c.odd_even ≤ n
  pub even_odd : c.even_odd ≤ n
  pub odd_odd : c.odd_odd ≤ n

-- how many of the cells that pass the test are in columns of parity i and rows of parity j
abbrev pub class : (ℕ → ℕ → Bool) → ℕ → ℕ → ℕ
class cells i j = count_cells (λ x y. cells x y && x % 2 == i && y % 2 == j)

-- the counts are those of these cells' classes
pub record AreClassCounts (c : Classes) (cells : ℕ → ℕ → Bool) : Type 0 where
  pub even_even : c.even_even ≡ class cells 0 0
  pub odd_even : c.odd_even ≡ class cells 1 0
  pub even_odd : c.even_odd ≡ class cells 0 1
  pub odd_odd : c.odd_odd ≡ class cells 1 1

-- how many of a class's cells in its first n rows are in places
abbrev pub particles_among : List ℕ → List ℕ → ℕ → ℕ
particles_among old places n = sum_below n (λ j. count_below 32 (λ i. bit (slice_index old j) i && bit (slice_index places j) i))
