-- What the blocks with an obstacle take, and those with walls alone, adds up to what all of them take.
use Rattle.std.proofs.Common.{◌≡◌, ℕ, ◌+◌, ◌-◌, ◌*◌, ◌%◌, ◌<◌, ◌==◌, Bool, false, not, ◌&&◌, ◌||◌, sym, ◌∙◌, ap, arith}
use Rattle.std.specs.Prelude.{pos, ◌+ℤ◌, ◌-ℤ◌, ℤ}
use Rattle.std.proofs.lemmas.Int.{ints}
use Rattle.std.proofs.lemmas.Bool.{cases_eq, eq-eqb, ne_eqb}
use Rattle.bit_tile.specs.Tile.{has, count_cells}
use Rattle.bit_tile.specs.declared.Tile.{Tile}
use Rattle.bit_tile.proofs.Counts.{cells_same, cells-split, cells_counted-none, class, in_columns, in_rows}
use Rattle.gas_terms.specs.Velocity.{has_parity}
use Rattle.gas_terms.specs.declared.accounts.Pair.{Pair}
use Rattle.gas_terms.specs.declared.accounts.Took.{Took}
use Rattle.gas_terms.specs.Accounts.{pair_plus}
use Rattle.block_rule.specs.Around.{either, none, is_walled_at, twice_forward, twice_momentum_in, taken_in_tile}
use Rattle.block_rule.proofs.Blank.{walled_either}

is_of_parity : (p n : ℕ) → p < 2 → has_parity p n ≡ (n % 2 == p)
is_of_parity p n two = grind (arith, cases_eq, eq-eqb, ne_eqb)

is_of_other_parity : (p n : ℕ) → p < 2 → not (has_parity p n) ≡ (n % 2 == 1 - p)
is_of_other_parity p n two = grind (arith, cases_eq, eq-eqb, ne_eqb)

module _ (cells : ℕ → ℕ → Bool) (p : ℕ) (two : p < 2) where
  pub right_count : count_cells (λ x y. cells x y && has_parity p x) ≡ class cells p 0 + class cells p 1
  right_count = cells_same _ _ (λ x y _ _. ap (λ b. cells x y && b) (is_of_parity p x two)) ∙ in_columns cells p

  pub left_count : count_cells (λ x y. cells x y && not (has_parity p x)) ≡ class cells (1 - p) 0 + class cells (1 - p) 1
  left_count = cells_same _ _ (λ x y _ _. ap (λ b. cells x y && b) (is_of_other_parity p x two)) ∙ in_columns cells (1 - p)

  pub down_count : count_cells (λ x y. cells x y && has_parity p y) ≡ class cells 0 p + class cells 1 p
  down_count = cells_same _ _ (λ x y _ _. ap (λ b. cells x y && b) (is_of_parity p y two)) ∙ in_rows cells p

  pub up_count : count_cells (λ x y. cells x y && not (has_parity p y)) ≡ class cells 0 (1 - p) + class cells 1 (1 - p)
  up_count = cells_same _ _ (λ x y _ _. ap (λ b. cells x y && b) (is_of_other_parity p y two)) ∙ in_rows cells (1 - p)

-- the sum depends on the 64 by 64 cells alone
pub twice_forward-same : (p q forward : ℕ → ℕ → Bool) → ((x y : ℕ) → x < 64 → y < 64 → p x y ≡ q x y) → twice_forward p forward ≡ twice_forward q forward
twice_forward-same p q forward same = grind (arith, cells_same)

pub twice_forward-none : (p forward : ℕ → ℕ → Bool) → ((x y : ℕ) → x < 64 → y < 64 → p x y ≡ false) → pos 0 ≡ twice_forward p forward
twice_forward-none p forward none =
    let zero_cells : count_cells (λ _ _. false) ≡ 0 = cells_counted-none in
    sym (twice_forward-same p (λ _ _. false) forward none
    ∙ ap (λ n. pos (2 * n) -ℤ pos (2 * n)) zero_cells)

abbrev pub pair : ℤ → ℤ → Pair
pair x y = record { x = x; y = y }

pub pair_same : (a b c d : ℤ) → a ≡ c → b ≡ d → pair a b ≡ pair c d
pair_same a b c d x y = rw (x, y)

pub twice_momentum_in-same : (p : ℕ) (cells others : ℕ → ℕ → Bool) → ((x y : ℕ) → x < 64 → y < 64 → cells x y ≡ others x y) → twice_momentum_in p cells ≡ twice_momentum_in p others
twice_momentum_in-same p cells others same = grind (arith, pair_same, twice_forward-same)

pub twice_momentum_in-none : (p : ℕ) (cells : ℕ → ℕ → Bool) → ((x y : ℕ) → x < 64 → y < 64 → cells x y ≡ false) → pair (pos 0) (pos 0) ≡ twice_momentum_in p cells
twice_momentum_in-none p cells empty = grind (arith, pair_same, twice_forward-none)

-- the account of the walls and that of the obstacles
abbrev pub accounts : Pair → Pair → Took
accounts walls obstacles = record { walls = walls; obstacles = obstacles }

pub accounts_same : (a b c d : Pair) → a ≡ c → b ≡ d → accounts a b ≡ accounts c d
accounts_same a b c d first second = rw (first, second)

-- each particle in one of two parts
parts : (t w o f : Bool) → (t && (w || o) && f && o) ≡ (t && o && f)
parts t w o f = grind arith

rest : (t w o f : Bool) → (t && (w || o) && f && not o) ≡ (t && w && not o && f)
rest t w o f = grind arith

module _ (t w o : ℕ → ℕ → Bool) where
  all_count : (f : ℕ → ℕ → Bool) → count_cells (λ x y. t x y && (w x y || o x y) && f x y) ≡ count_cells (λ x y. t x y && o x y && f x y) + count_cells (λ x y. t x y && w x y && not (o x y) && f x y)
  all_count f =
      cells-split (λ x y. t x y && (w x y || o x y) && f x y) o
      ∙ (ap (λ n. n + count_cells (λ x y. t x y && (w x y || o x y) && f x y && not (o x y))) (cells_same _ _ (λ x y _ _. parts (t x y) (w x y) (o x y) (f x y)))
      ∙ ap (λ n. count_cells (λ x y. t x y && o x y && f x y) + n) (cells_same _ _ (λ x y _ _. rest (t x y) (w x y) (o x y) (f x y))))

  twice_forward-add : (f : ℕ → ℕ → Bool) → twice_forward (λ x y. t x y && w x y && not (o x y)) f +ℤ twice_forward (λ x y. t x y && o x y) f ≡ twice_forward (λ x y. t x y && (w x y || o x y)) f
  twice_forward-add f = omega (arith, ints, all_count f, all_count (λ x y. not (f x y)))

  pub twice_momentum_in-add : (p : ℕ) → pair_plus (twice_momentum_in p (λ x y. t x y && w x y && not (o x y))) (twice_momentum_in p (λ x y. t x y && o x y)) ≡ twice_momentum_in p (λ x y. t x y && (w x y || o x y))
  twice_momentum_in-add p = pair_same _ _ _ _ (twice_forward-add (λ x y. has_parity p x)) (twice_forward-add (λ x y. has_parity p y))

-- the two accounts together
pub took_together : (p : ℕ) (tile : Tile) (walls obstacles : ℕ → ℕ → Bool) (took : Took) → took ≡ taken_in_tile p tile walls obstacles → pair_plus took.walls took.obstacles ≡ twice_momentum_in p (λ x y. has tile x y && is_walled_at p (either walls obstacles) x y)
took_together p tile walls obstacles took is_took =
    rw is_took
    (twice_momentum_in-add (has tile) (is_walled_at p walls) (is_walled_at p obstacles) p
    ∙ twice_momentum_in-same p _ _ (λ x y _ _. ap (λ b. has tile x y && b) (sym (walled_either p walls obstacles x y))))
