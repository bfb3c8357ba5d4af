-- What a block does, said from each of its four cells.
use Rattle.std.proofs.Common.{◌≡◌, ℕ, ◌+◌, ◌%◌, ◌==◌, Bool, true, false, not, ◌&&◌, ◌||◌, if◌then◌else◌, arith, inl, inr}
use Rattle.std.proofs.lemmas.Bool.{cases_eq, eq-eqb, ne_eqb}
use Rattle.gas_terms.specs.Velocity.{opposite, outcome, velocity_at}
use Rattle.block_rule.specs.Around.{block_start, block_channels, is_walled_at}
use Rattle.block_rule.specs.Cell.{partner, turned_cell, turned_at}

-- one of a block's cells is a wall: seen from one of them
abbrev pub walled_from : ℕ → (ℕ → ℕ → Bool) → ℕ → ℕ → Bool
walled_from p walls x y =
    (walls (x + 1) (y + 1) || walls (x + 1) (partner p y)) || (walls (partner p x) (y + 1) || walls (partner p x) (partner p y))

-- the collision and the bounce, by the block's cells
outcome_table : (w a b c d : Bool) → (if w then a else (if d && a && not b && not c || (b && c && not d && not a) then b else d)) ≡ turned_cell w a b c d
outcome_table w a b c d = grind arith

walled_upper_right : (a b c d : Bool) → (a || b || c || d) ≡ ((b || d) || (a || c))
walled_upper_right a b c d = grind arith

walled_lower_left : (a b c d : Bool) → (a || b || c || d) ≡ ((c || a) || (d || b))
walled_lower_left a b c d = grind arith

walled_lower_right : (a b c d : Bool) → (a || b || c || d) ≡ ((d || b) || (c || a))
walled_lower_right a b c d = grind arith

-- what a cell is after the rule, by the block's channels and by its cells
pub turned_by_cells : (p : ℕ) (cells : ℕ → ℕ → Bool) (walled : Bool) (x y : ℕ) → outcome walled (block_channels cells (block_start p x) (block_start p y)) (opposite (velocity_at p x y)) ≡ turned_at p cells walled x y
turned_by_cells p cells walled x y =
    let two_x : x + 1 + 1 ≡ x + 2 = omega arith in
    let two_y : y + 1 + 1 ≡ y + 2 = omega arith in
    elim (cases_eq ((x + p) % 2) 0) [
      | inl e ↦
          let hx : ((x + p) % 2 == 0) ≡ true = eq-eqb ((x + p) % 2) 0 e in
          elim (cases_eq ((y + p) % 2) 0) [
            | inl f ↦
                let hy : ((y + p) % 2 == 0) ≡ true = eq-eqb ((y + p) % 2) 0 f in
                rw (hx, hy, two_x, two_y) (outcome_table walled _ _ _ _)
            | inr f ↦
                let hy : ((y + p) % 2 == 0) ≡ false = ne_eqb ((y + p) % 2) 0 f in
                rw (hx, hy, two_x) (outcome_table walled _ _ _ _)
          ]
      | inr e ↦
          let hx : ((x + p) % 2 == 0) ≡ false = ne_eqb ((x + p) % 2) 0 e in
          elim (cases_eq ((y + p) % 2) 0) [
            | inl f ↦
                let hy : ((y + p) % 2 == 0) ≡ true = eq-eqb ((y + p) % 2) 0 f in
                rw (hx, hy, two_y) (outcome_table walled _ _ _ _)
            | inr f ↦
                let hy : ((y + p) % 2 == 0) ≡ false = ne_eqb ((y + p) % 2) 0 f in
                rw (hx, hy) (outcome_table walled _ _ _ _)
          ]
    ]

pub walled_by_cells : (p : ℕ) (walls : ℕ → ℕ → Bool) (x y : ℕ) → is_walled_at p walls x y ≡ walled_from p walls x y
walled_by_cells p walls x y = grind (arith, cases_eq, eq-eqb, ne_eqb, walled_lower_left, walled_upper_right, walled_lower_right)
