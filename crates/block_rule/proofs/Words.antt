-- A row of blocks in four words.
use Rattle.std.proofs.Common.{◌≡◌, ℕ, ◌+◌, ◌-◌, ◌*◌, ◌/◌, ◌%◌, ◌^◌, ◌<◌, ◌==◌, Bool, false, not, ◌&&◌, ◌||◌, if◌then◌else◌, ◌∙◌, ap, ap₂, arith, inl, inr, bit_and, bit_or}
use Rattle.std.specs.Prelude.{bit_xor}
use Rattle.std.specs.Int.{bit_not, w32}
use Rattle.std.proofs.lemmas.Nat.{xor_lt, or_lt}
use Rattle.std.proofs.lemmas.Bool.{cases_eq, eq-eqb, ne_eqb}
use Rattle.bit_tile.specs.Bit.{bit}
use Rattle.bit_tile.proofs.Bits.{either, bit-zero, bit-and, bit-or, bit-xor, bit-shr}
use Rattle.bit_tile.proofs.Words32.{bit-not, bit-shl_high, bit-shl_low, bit-above}
use Rattle.block_rule.specs.Cell.{turned_cell}
use Rattle.std.proofs.Math.Bool.{or-false, or_comm}

-- the corners of a block, which keep their cells where it is walled
upper_left_table : (w ul ur ll lr : Bool) → either ul (either (either ul lr) (either ul ur && not (either ul lr || either ur ll)) && not w) ≡ turned_cell w ul ur ll lr
upper_left_table w ul ur ll lr = grind arith

upper_right_table : (w ul ur ll lr : Bool) → either ur (either (either ur ll) (either ul ur && not (either ul lr || either ur ll)) && not w) ≡ turned_cell w ur ul lr ll
upper_right_table w ul ur ll lr = grind arith

lower_left_table : (w ul ur ll lr : Bool) → either ll (either (either ur ll) (either ul ur && not (either ul lr || either ur ll)) && not w) ≡ turned_cell w ll lr ul ur
lower_left_table w ul ur ll lr = grind arith

lower_right_table : (w ul ur ll lr : Bool) → either lr (either (either ul lr) (either ul ur && not (either ul lr || either ur ll)) && not w) ≡ turned_cell w lr ll ur ul
lower_right_table w ul ur ll lr = grind arith

-- the blocks that have just one diagonal
abbrev pub diagonal : ℕ → ℕ → ℕ → ℕ → ℕ
diagonal ul ur ll lr = bit_and (bit_xor ul ur) (bit_not w32 (bit_or (bit_xor ul lr) (bit_xor ur ll)))

-- what a corner and the one across it change by, where the block is not walled
abbrev pub change : ℕ → ℕ → ℕ → ℕ → ℕ
change own across diagonal walled = bit_and (bit_xor (bit_xor own across) diagonal) (bit_not w32 walled)

module _ (walled ul ur ll lr i : ℕ) (fits : walled < 2 ^ 32) (ul_fits : ul < 2 ^ 32) (ur_fits : ur < 2 ^ 32) (ll_fits : ll < 2 ^ 32) (lr_fits : lr < 2 ^ 32) (within : i < 32) where
  bit_of_diagonal : bit (diagonal ul ur ll lr) i ≡ (either (bit ul i) (bit ur i) && not (either (bit ul i) (bit lr i) || either (bit ur i) (bit ll i)))
  bit_of_diagonal =
      let a = xor_lt 32 ul lr ul_fits lr_fits in
      let b = xor_lt 32 ur ll ur_fits ll_fits in
      let n = bit-not (bit_or (bit_xor ul lr) (bit_xor ur ll)) i (or_lt 32 (bit_xor ul lr) (bit_xor ur ll) a b) within in
      rw (bit-and, bit-xor, n, bit-or, bit-xor, bit-xor)

  bit_of_change : (own across : ℕ) → bit (change own across (diagonal ul ur ll lr) walled) i ≡ (either (either (bit own i) (bit across i)) (either (bit ul i) (bit ur i) && not (either (bit ul i) (bit lr i) || either (bit ur i) (bit ll i))) && not (bit walled i))
  bit_of_change own across = grind (arith, bit-and, bit-xor, bit_of_diagonal, bit-not)

  pub upper_left_bit : bit (bit_xor ul (change ul lr (diagonal ul ur ll lr) walled)) i ≡ turned_cell (bit walled i) (bit ul i) (bit ur i) (bit ll i) (bit lr i)
  upper_left_bit = bit-xor ul (change ul lr (diagonal ul ur ll lr) walled) i ∙ (ap (either (bit ul i)) (bit_of_change ul lr) ∙ upper_left_table (bit walled i) (bit ul i) (bit ur i) (bit ll i) (bit lr i))

  pub upper_right_bit : bit (bit_xor ur (change ur ll (diagonal ul ur ll lr) walled)) i ≡ turned_cell (bit walled i) (bit ur i) (bit ul i) (bit lr i) (bit ll i)
  upper_right_bit = bit-xor ur (change ur ll (diagonal ul ur ll lr) walled) i ∙ (ap (either (bit ur i)) (bit_of_change ur ll) ∙ upper_right_table (bit walled i) (bit ul i) (bit ur i) (bit ll i) (bit lr i))

  pub lower_left_bit : bit (bit_xor ll (change ur ll (diagonal ul ur ll lr) walled)) i ≡ turned_cell (bit walled i) (bit ll i) (bit lr i) (bit ul i) (bit ur i)
  lower_left_bit = bit-xor ll (change ur ll (diagonal ul ur ll lr) walled) i ∙ (ap (either (bit ll i)) (bit_of_change ur ll) ∙ lower_left_table (bit walled i) (bit ul i) (bit ur i) (bit ll i) (bit lr i))

  pub lower_right_bit : bit (bit_xor lr (change ul lr (diagonal ul ur ll lr) walled)) i ≡ turned_cell (bit walled i) (bit lr i) (bit ll i) (bit ur i) (bit ul i)
  lower_right_bit = bit-xor lr (change ul lr (diagonal ul ur ll lr) walled) i ∙ (ap (either (bit lr i)) (bit_of_change ul lr) ∙ lower_right_table (bit walled i) (bit ul i) (bit ur i) (bit ll i) (bit lr i))

-- where no block is walled
pub none_walled : (i new : ℕ) (own beside facing across : Bool) → bit new i ≡ turned_cell (bit 0 i) own beside facing across → bit new i ≡ turned_cell false own beside facing across
none_walled i new own beside facing across is = is ∙ ap (λ w. turned_cell w own beside facing across) (bit-zero i)

-- `(row >> 1) | (right << 31)` and `(row << 1) | (left >> 31)`
pub bit_of_next : (row right i : ℕ) → row < 2 ^ 32 → i < 32 → bit (bit_or (row / 2) (right * 2147483648 % 2 ^ 32)) i ≡ (if i == 31 then bit right 0 else bit row (i + 1))
bit_of_next row right i fits within =
    elim (cases_eq i 31) [
      | inl e ↦
          let above : bit (row / 2) i ≡ false = bit-shr row 1 i ∙ bit-above row (1 + i) fits (omega arith) in
          let there : bit (right * 2147483648 % 2 ^ 32) i ≡ bit right 0 = bit-shl_high right 31 i within (omega arith) ∙ ap (bit right) (omega arith) in
          rw (bit-or, above, there, eq-eqb i 31 e)
      | inr ne ↦
          let here : bit (row / 2) i ≡ bit row (i + 1) = bit-shr row 1 i ∙ ap (bit row) (omega arith) in
          let low : bit (right * 2147483648 % 2 ^ 32) i ≡ false = bit-shl_low right 31 i within (omega arith) in
          rw (bit-or, here, low, ne_eqb i 31 ne) (or-false (bit row (i + 1)))
    ]

pub bit_of_previous : (row left i : ℕ) → left < 2 ^ 32 → i < 32 → bit (bit_or (row * 2 % 2 ^ 32) (left / 2147483648)) i ≡ (if i == 0 then bit left 31 else bit row (i - 1))
bit_of_previous row left i fits within =
    elim (cases_eq i 0) [
      | inl e ↦
          let low : bit (row * 2 % 2 ^ 32) i ≡ false = bit-shl_low row 1 i within (omega arith) in
          let there : bit (left / 2147483648) i ≡ bit left 31 = bit-shr left 31 i ∙ ap (bit left) (omega arith) in
          rw (bit-or, low, there, eq-eqb i 0 e)
      | inr ne ↦
          let here : bit (row * 2 % 2 ^ 32) i ≡ bit row (i - 1) = bit-shl_high row 1 i within (omega arith) in
          let above : bit (left / 2147483648) i ≡ false = bit-shr left 31 i ∙ bit-above left (31 + i) fits (omega arith) in
          rw (bit-or, here, above, ne_eqb i 0 ne) (or-false (bit row (i - 1)))
    ]

-- whether one of a block's corners has a cell, seen from each of them: `(ul | ll) | (ur | lr)`
abbrev any : ℕ → ℕ → ℕ → ℕ → ℕ
any ul ur ll lr = bit_or (bit_or ul ll) (bit_or ur lr)

module _ (ul ur ll lr i : ℕ) where
  pub any_upper_left : bit (any ul ur ll lr) i ≡ ((bit ul i || bit ll i) || (bit ur i || bit lr i))
  any_upper_left = rw (bit-or (bit_or ul ll) (bit_or ur lr) i, bit-or, bit-or)

  pub any_upper_right : bit (any ul ur ll lr) i ≡ ((bit ur i || bit lr i) || (bit ul i || bit ll i))
  any_upper_right = any_upper_left ∙ or_comm (bit ul i || bit ll i) (bit ur i || bit lr i)

  pub any_lower_left : bit (any ul ur ll lr) i ≡ ((bit ll i || bit ul i) || (bit lr i || bit ur i))
  any_lower_left = any_upper_left ∙ ap₂ (λ u v. u || v) (or_comm (bit ul i) (bit ll i)) (or_comm (bit ur i) (bit lr i))

  pub any_lower_right : bit (any ul ur ll lr) i ≡ ((bit lr i || bit ur i) || (bit ll i || bit ul i))
  any_lower_right = any_lower_left ∙ or_comm (bit ll i || bit ul i) (bit lr i || bit ur i)
