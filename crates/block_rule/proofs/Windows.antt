-- Rows of blocks, seen in the window of a tile and its ring.
use Rattle.std.proofs.Common.{◌≡◌, ℕ, ◌+◌, ◌-◌, ◌*◌, ◌/◌, ◌%◌, ◌<◌, ◌==◌, Bool, if◌then◌else◌, length, get_or, set, sym, ◌∙◌, ap, ap₂, arith, get_or-set_other, get_or-set_same}
use Rattle.std.proofs.lemmas.Bool.{cases_eq, eq-eqb, ne_eqb}
use Rattle.bit_tile.specs.Bit.{bit}
use Rattle.bit_tile.specs.Tile.{HasCells}
use Rattle.bit_tile.specs.declared.Tile.{Tile}
use Rattle.bit_tile.proofs.Classes.{by_class, even_even_at, odd_even_at, even_odd_at, odd_odd_at}
use Rattle.block_rule.specs.Cell.{made, partner}
use Rattle.tile_border.specs.declared.border.Neighbors.{Neighbors}
use Rattle.block_rule.specs.Rows.{ShowsTile, ShowsRound, IsMade, ShowsRows, even_row, odd_row, beside_left, beside_right, eight_row}
use Rattle.block_rule.specs.declared.blocks.Blocks.{Blocks}
use Rattle.block_rule.specs.declared.blocks.EightRows.{EightRows}

pub cell_by : (cell : Bool → Bool → Bool → Bool → Bool) (a b c d e f g h : Bool) → a ≡ e → b ≡ f → c ≡ g → d ≡ h → cell a b c d ≡ cell e f g h
cell_by cell a b c d e f g h p q r s = ap₂ (λ u v. cell u v c d) p q ∙ ap₂ (λ u v. cell e f u v) r s

-- what is made of the cell (x, y), by the places of its block's cells
pub made_by_places : (cell : Bool → Bool → Bool → Bool → Bool) (p : ℕ) (cells : ℕ → ℕ → Bool) (x y own_x own_y far_x far_y : ℕ) → x + 1 ≡ own_x → y + 1 ≡ own_y → partner p x ≡ far_x → partner p y ≡ far_y → made cell p cells x y ≡ cell (cells own_x own_y) (cells far_x own_y) (cells own_x far_y) (cells far_x far_y)
made_by_places cell p cells x y own_x own_y far_x far_y ox oy fx fy = grind arith

pub partner_first : (p x : ℕ) → (x + p) % 2 ≡ 0 → partner p x ≡ x + 2
partner_first p x h = rw (eq-eqb ((x + p) % 2) 0 h)

pub partner_second : (p x : ℕ) → (x + p) % 2 ≡ 1 → partner p x ≡ x
partner_second p x h = rw (ne_eqb ((x + p) % 2) 0 (λ e. omega arith))

-- the next and the previous class, in the window
pub next_shown : (window : ℕ → ℕ → Bool) (y row right next : ℕ) → ((i : ℕ) → i < 32 → window (2 * i + 1) y ≡ bit row i) → window 65 y ≡ bit right 0 → ((i : ℕ) → i < 32 → bit next i ≡ (if i == 31 then bit right 0 else bit row (i + 1))) → (i : ℕ) → i < 32 → bit next i ≡ window (2 * i + 3) y
next_shown window y row right next shown end is i within = grind (arith, cases_eq, eq-eqb, ne_eqb)

pub previous_shown : (window : ℕ → ℕ → Bool) (y row left previous : ℕ) → ((i : ℕ) → i < 32 → window (2 * i + 2) y ≡ bit row i) → window 0 y ≡ bit left 31 → ((i : ℕ) → i < 32 → bit previous i ≡ (if i == 0 then bit left 31 else bit row (i - 1))) → (i : ℕ) → i < 32 → bit previous i ≡ window (2 * i) y
previous_shown window y row left previous shown end is i within = grind (arith, cases_eq, eq-eqb, ne_eqb)

-- the tile's words, in the window
module _ (window : ℕ → ℕ → Bool) (t : Tile) (shows : ShowsTile window t) (i j : ℕ) (h : i < 32) (k : j < 32) where
  pub ee_shown : window (2 * i + 1) (2 * j + 1) ≡ bit (get_or t.even_even j 0) i
  ee_shown = shows (2 * i) (2 * j) (omega arith) (omega arith) ∙ even_even_at t i j

  pub oe_shown : window (2 * i + 2) (2 * j + 1) ≡ bit (get_or t.odd_even j 0) i
  oe_shown = ap (λ u. window u (2 * j + 1)) (omega arith) ∙ (shows (2 * i + 1) (2 * j) (omega arith) (omega arith) ∙ odd_even_at t i j)

  pub eo_shown : window (2 * i + 1) (2 * j + 2) ≡ bit (get_or t.even_odd j 0) i
  eo_shown = ap (window (2 * i + 1)) (omega arith) ∙ (shows (2 * i) (2 * j + 1) (omega arith) (omega arith) ∙ even_odd_at t i j)

  pub oo_shown : window (2 * i + 2) (2 * j + 2) ≡ bit (get_or t.odd_odd j 0) i
  oo_shown = ap₂ window (omega arith) (omega arith) ∙ (shows (2 * i + 1) (2 * j + 1) (omega arith) (omega arith) ∙ odd_odd_at t i j)

-- the even blocks' cells: the rule is that of block x / 2 of row y / 2
pub even_cells : (cell : ℕ → ℕ → Bool → Bool → Bool → Bool → Bool) (window : ℕ → ℕ → Bool) (tile out : Tile) → ShowsTile window tile → ((k : ℕ) → k < 32 → IsMade (cell k) (even_row tile k) (even_row out k)) → HasCells out (λ x y. made (cell (y / 2) (x / 2)) 0 window x y)
even_cells cell window tile out shows done =
    by_class out (λ x y. made (cell (y / 2) (x / 2)) 0 window x y)
    (λ i j h k.
    (done j k).upper_left i h
    ∙ (cell_by (cell j i) _ _ _ _ _ _ _ _ (sym (ee_shown window tile shows i j h k)) (sym (oe_shown window tile shows i j h k)) (sym (eo_shown window tile shows i j h k)) (sym (oo_shown window tile shows i j h k))
    ∙ (sym (made_by_places (cell j i) 0 window (2 * i + 0) (2 * j + 0) (2 * i + 1) (2 * j + 1) (2 * i + 2) (2 * j + 2) (omega arith) (omega arith) (partner_first 0 (2 * i + 0) (omega arith) ∙ omega arith) (partner_first 0 (2 * j + 0) (omega arith) ∙ omega arith))
    ∙ there i j 0 0 (omega arith) (omega arith))))
    (λ i j h k.
    (done j k).upper_right i h
    ∙ (cell_by (cell j i) _ _ _ _ _ _ _ _ (sym (oe_shown window tile shows i j h k)) (sym (ee_shown window tile shows i j h k)) (sym (oo_shown window tile shows i j h k)) (sym (eo_shown window tile shows i j h k))
    ∙ (sym (made_by_places (cell j i) 0 window (2 * i + 1) (2 * j + 0) (2 * i + 2) (2 * j + 1) (2 * i + 1) (2 * j + 2) (omega arith) (omega arith) (partner_second 0 (2 * i + 1) (omega arith)) (partner_first 0 (2 * j + 0) (omega arith) ∙ omega arith))
    ∙ there i j 1 0 (omega arith) (omega arith))))
    (λ i j h k.
    (done j k).lower_left i h
    ∙ (cell_by (cell j i) _ _ _ _ _ _ _ _ (sym (eo_shown window tile shows i j h k)) (sym (oo_shown window tile shows i j h k)) (sym (ee_shown window tile shows i j h k)) (sym (oe_shown window tile shows i j h k))
    ∙ (sym (made_by_places (cell j i) 0 window (2 * i + 0) (2 * j + 1) (2 * i + 1) (2 * j + 2) (2 * i + 2) (2 * j + 1) (omega arith) (omega arith) (partner_first 0 (2 * i + 0) (omega arith) ∙ omega arith) (partner_second 0 (2 * j + 1) (omega arith)))
    ∙ there i j 0 1 (omega arith) (omega arith))))
    (λ i j h k.
    (done j k).lower_right i h
    ∙ (cell_by (cell j i) _ _ _ _ _ _ _ _ (sym (oo_shown window tile shows i j h k)) (sym (eo_shown window tile shows i j h k)) (sym (oe_shown window tile shows i j h k)) (sym (ee_shown window tile shows i j h k))
    ∙ (sym (made_by_places (cell j i) 0 window (2 * i + 1) (2 * j + 1) (2 * i + 2) (2 * j + 2) (2 * i + 1) (2 * j + 1) (omega arith) (omega arith) (partner_second 0 (2 * i + 1) (omega arith)) (partner_second 0 (2 * j + 1) (omega arith)))
    ∙ there i j 1 1 (omega arith) (omega arith))))
  where
    there : (i j a b : ℕ) → a < 2 → b < 2 → made (cell j i) 0 window (2 * i + a) (2 * j + b) ≡ made (cell ((2 * j + b) / 2) ((2 * i + a) / 2)) 0 window (2 * i + a) (2 * j + b)
    there i j a b h k =
        let row : j ≡ (2 * j + b) / 2 = omega arith in
        let column : i ≡ (2 * i + a) / 2 = omega arith in
        ap₂ (λ r c. made (cell r c) 0 window (2 * i + a) (2 * j + b)) row column

-- one more of eight rows
pub eight_more : (P : ℕ → Blocks → Type 0) (rows : EightRows) (new : Blocks) (k : ℕ) → k < length rows.upper_left → k < length rows.upper_right → k < length rows.lower_left → k < length rows.lower_right →
    ((m : ℕ) → m < k → P m (eight_row rows m)) → P k new → (m : ℕ) → m < k + 1 →
    P m (eight_row (record { upper_left = set rows.upper_left k new.upper_left; upper_right = set rows.upper_right k new.upper_right; lower_left = set rows.lower_left k new.lower_left; lower_right = set rows.lower_right k new.lower_right }) m)
eight_more P rows new k ul ur ll lr before here m below = grind (arith, cases_eq, get_or-set_same, get_or-set_other)

-- the rows of odd blocks, in the window: between two rows of the tile, at its top and at its bottom
module _ (window : ℕ → ℕ → Bool) (t : Tile) (shows : ShowsTile window t) (near : Neighbors) (round : ShowsRound window near) where
  pub inner_shown : (j : ℕ) → j < 31 → ShowsRows window (2 * j + 2) (odd_row t j) (beside_left near.left j) (beside_right near.right j)
  inner_shown j h =
      let next : 2 * j + 2 + 1 ≡ 2 * (j + 1) + 1 = omega arith in
      let upper : 2 * j + 2 ≡ 2 * j + 1 + 1 = omega arith in
      let lower : 2 * j + 2 + 1 ≡ 2 * (j + 1) + 1 = omega arith in
      record {
        upper_left = λ i k. oo_shown window t shows i j k (omega arith);
        upper_right = λ i k. eo_shown window t shows i j k (omega arith);
        lower_left = λ i k. ap (window (2 * i + 2)) next ∙ oe_shown window t shows i (j + 1) k (omega arith);
        lower_right = λ i k. ap (window (2 * i + 1)) next ∙ ee_shown window t shows i (j + 1) k (omega arith);
        left_upper = ap (window 0) upper ∙ (round.left (2 * j + 1) (omega arith) ∙ odd_odd_at near.left 31 j);
        left_lower = ap (window 0) lower ∙ (round.left (2 * (j + 1)) (omega arith) ∙ odd_even_at near.left 31 (j + 1));
        right_upper = ap (window 65) upper ∙ (round.right (2 * j + 1) (omega arith) ∙ even_odd_at near.right 0 j);
        right_lower = ap (window 65) lower ∙ (round.right (2 * (j + 1)) (omega arith) ∙ even_even_at near.right 0 (j + 1));
      }

  pub top_shown : ShowsRows window 0 (record { upper_left = get_or near.above.odd_odd 31 0; upper_right = get_or near.above.even_odd 31 0; lower_left = get_or t.odd_even 0 0; lower_right = get_or t.even_even 0 0 }) (record { upper = get_or near.above_left.odd_odd 31 0; lower = get_or near.left.odd_even 0 0 }) (record { upper = get_or near.above_right.even_odd 31 0; lower = get_or near.right.even_even 0 0 })
  top_shown =
      record {
        upper_left = λ i k. ap (λ u. window u 0) (omega arith) ∙ (round.above (2 * i + 1) (omega arith) ∙ odd_odd_at near.above i 31);
        upper_right = λ i k. round.above (2 * i) (omega arith) ∙ even_odd_at near.above i 31;
        lower_left = λ i k. oe_shown window t shows i 0 k (omega arith);
        lower_right = λ i k. ee_shown window t shows i 0 k (omega arith);
        left_upper = round.above_left ∙ odd_odd_at near.above_left 31 31;
        left_lower = round.left 0 (omega arith) ∙ odd_even_at near.left 31 0;
        right_upper = round.above_right ∙ even_odd_at near.above_right 0 31;
        right_lower = round.right 0 (omega arith) ∙ even_even_at near.right 0 0;
      }

  pub bottom_shown : ShowsRows window 64 (record { upper_left = get_or t.odd_odd 31 0; upper_right = get_or t.even_odd 31 0; lower_left = get_or near.below.odd_even 0 0; lower_right = get_or near.below.even_even 0 0 }) (record { upper = get_or near.left.odd_odd 31 0; lower = get_or near.below_left.odd_even 0 0 }) (record { upper = get_or near.right.even_odd 31 0; lower = get_or near.below_right.even_even 0 0 })
  bottom_shown =
      record {
        upper_left = λ i k. oo_shown window t shows i 31 k (omega arith);
        upper_right = λ i k. eo_shown window t shows i 31 k (omega arith);
        lower_left = λ i k. ap (λ u. window u 65) (omega arith) ∙ (round.below (2 * i + 1) (omega arith) ∙ odd_even_at near.below i 0);
        lower_right = λ i k. round.below (2 * i) (omega arith) ∙ even_even_at near.below i 0;
        left_upper = round.left 63 (omega arith) ∙ odd_odd_at near.left 31 31;
        left_lower = round.below_left ∙ odd_even_at near.below_left 31 0;
        right_upper = round.right 63 (omega arith) ∙ even_odd_at near.right 0 31;
        right_lower = round.below_right ∙ even_even_at near.below_right 0 0;
      }
