-- The collision at odd parity in place.
use Rattle.std.proofs.Common.{◌≡◌, ◌⊎◌, ℕ, ◌+◌, ◌-◌, ◌*◌, ◌/◌, ◌%◌, ◌<◌, ◌≤◌, ◌==◌, Bool, false, if◌then◌else◌, List, Option, None, length, replicate, get_or, set, refl, sym, subst, ◌∙◌, ap, ap₂, arith, inl, inr, get_or-set_other, get_or-set_same}
use Rattle.std.proofs.lemmas.Bool.{cases_eq, cases_lt, eq-eqb, ne_eqb}
use Rattle.bit_tile.specs.Bit.{bit}
use Rattle.bit_tile.specs.Tile.{has}
use Rattle.bit_tile.specs.declared.Tile.{Tile}
use Rattle.bit_tile.proofs.Bits.{bit-zero, get_or-replicate_zero}
use Rattle.bit_tile.proofs.Classes.{in_even_even, in_odd_even, in_even_odd, in_odd_odd, row_even, row_odd, even_even_at, odd_even_at, even_odd_at, odd_odd_at}
use Rattle.block_rule.specs.Around.{block_start, is_block_walled, is_walled_at, turned_window}
use Rattle.block_rule.specs.Cell.{partner, turned_cell}
use Rattle.block_rule.specs.Rows.{IsMade, odd_row, eight_row, beside_right}
use Rattle.block_rule.specs.InPlace.{ShowsBegun, NamesRow, IsRowTurned, IsLeaving, IsInnerSeen, IsSeamSeen, AreNamed, AreRowsSeen, AreCarried, AreEightCarried, AreOthersCarried, AreOthersKept, IsCarried, carried_row, HaveTurned, AreEndsKept, HasOtherCells}
use Rattle.block_rule.specs.NamedBlocks.{NameBlocks}
use Rattle.block_rule.specs.Shown.{HasNoCell}
use Rattle.block_rule.specs.declared.blocks.Blocks.{Blocks}
use Rattle.block_rule.specs.declared.blocks.Beside.{Beside}
use Rattle.block_rule.specs.declared.blocks.EightRows.{EightRows}
use Rattle.block_rule.specs.declared.in_place.Carry.{Carry}
use Rattle.block_rule.proofs.Around.{turned_by_cells}
use Rattle.block_rule.proofs.Windows.{cell_by, next_shown}
use Rattle.block_rule.proofs.NamedBlocks.{nothing_given, one_named}
use Rattle.block_rule.specs.TileBlocks.{NamesBlocks, AreGivenBlocks, walled_by}
use Rattle.block_rule.specs.declared.blocks_in_tile.SetBlocks.{SetBlocks}

-- A column or row x of a tile: where its block begins, where the window has it, and where the window has the block's other one.
record IsPlaced (x b o f : ℕ) : Type 0 where
  pub begin : block_start 1 x ≡ b
  pub own : x + 1 ≡ o
  pub far : partner 1 x ≡ f

-- the first and the second of block i
first_placed : (i : ℕ) → IsPlaced (2 * i + 1) (2 * i + 2) (2 * i + 2) (2 * i + 3)
first_placed i =
    let odd : ((2 * i + 1 + 1) % 2 == 0) ≡ Bool.true = eq-eqb ((2 * i + 1 + 1) % 2) 0 (omega arith) in
    record { begin = rw odd (let e : 2 * i + 1 + 1 ≡ 2 * i + 2 = omega arith in e); own = omega arith; far = rw odd (let e : 2 * i + 1 + 2 ≡ 2 * i + 3 = omega arith in e) }

second_placed : (i : ℕ) → IsPlaced (2 * i + 2) (2 * i + 2) (2 * i + 3) (2 * i + 2)
second_placed i =
    let even : ((2 * i + 2 + 1) % 2 == 0) ≡ false = ne_eqb ((2 * i + 2 + 1) % 2) 0 (λ e. omega arith) in
    record { begin = rw even refl; own = omega arith; far = rw even refl }

-- what the collision makes of a corner
turned_corner : (window solid : ℕ → ℕ → Bool) (x y bx by ox oy fx fy : ℕ) (w a b c d : Bool) → IsPlaced x bx ox fx → IsPlaced y by oy fy → w ≡ is_block_walled solid bx by → a ≡ window ox oy → b ≡ window fx oy → c ≡ window ox fy → d ≡ window fx fy → turned_cell w a b c d ≡ turned_window 1 window solid x y
turned_corner window solid x y bx by ox oy fx fy w a b c d column row is_w is_a is_b is_c is_d =
    ap (λ u. turned_cell u a b c d) (is_w ∙ sym (ap₂ (is_block_walled solid) column.begin row.begin))
    ∙ (cell_by (turned_cell (is_walled_at 1 solid x y)) a b c d _ _ _ _ (is_a ∙ sym (ap₂ window column.own row.own)) (is_b ∙ sym (ap₂ window column.far row.own)) (is_c ∙ sym (ap₂ window column.own row.far)) (is_d ∙ sym (ap₂ window column.far row.far))
    ∙ sym (turned_by_cells 1 window (is_walled_at 1 solid x y) x y))

module _ (window solid : ℕ → ℕ → Bool) (j : ℕ) (own : Blocks) (right : Beside) (walled upper lower : ℕ) (made : Blocks) (s : ShowsBegun window j own right) (named : NamesRow walled solid j) (is_upper : (i : ℕ) → i < 32 → bit upper i ≡ (if i == 31 then bit right.upper 0 else bit own.upper_right (i + 1))) (is_lower : (i : ℕ) → i < 32 → bit lower i ≡ (if i == 31 then bit right.lower 0 else bit own.lower_right (i + 1)))
    (is : IsMade (λ i. turned_cell (bit walled i)) (record { upper_left = own.upper_left; upper_right = upper; lower_left = own.lower_left; lower_right = lower }) made) where
  upper_shown : (i : ℕ) → i < 32 → bit upper i ≡ window (2 * i + 3) (2 * j + 2)
  upper_shown = next_shown window (2 * j + 2) own.upper_right right.upper upper s.upper_right s.right_upper is_upper

  lower_shown : (i : ℕ) → i < 32 → bit lower i ≡ window (2 * i + 3) (2 * j + 3)
  lower_shown = next_shown window (2 * j + 3) own.lower_right right.lower lower s.lower_right s.right_lower is_lower

  pub upper_left_turned : (i : ℕ) → i < 32 → bit made.upper_left i ≡ turned_window 1 window solid (2 * i + 1) (2 * j + 1)
  upper_left_turned i h = is.upper_left i h ∙ turned_corner window solid (2 * i + 1) (2 * j + 1) _ _ _ _ _ _ _ _ _ _ _ (first_placed i) (first_placed j) (named i h) (sym (s.upper_left i h)) (upper_shown i h) (sym (s.lower_left i h)) (lower_shown i h)

  pub upper_right_turned : (i : ℕ) → i < 32 → bit made.upper_right i ≡ turned_window 1 window solid (2 * i + 2) (2 * j + 1)
  upper_right_turned i h = is.upper_right i h ∙ turned_corner window solid (2 * i + 2) (2 * j + 1) _ _ _ _ _ _ _ _ _ _ _ (second_placed i) (first_placed j) (named i h) (upper_shown i h) (sym (s.upper_left i h)) (lower_shown i h) (sym (s.lower_left i h))

  pub lower_left_turned : (i : ℕ) → i < 32 → bit made.lower_left i ≡ turned_window 1 window solid (2 * i + 1) (2 * j + 2)
  lower_left_turned i h = is.lower_left i h ∙ turned_corner window solid (2 * i + 1) (2 * j + 2) _ _ _ _ _ _ _ _ _ _ _ (first_placed i) (second_placed j) (named i h) (sym (s.lower_left i h)) (lower_shown i h) (sym (s.upper_left i h)) (upper_shown i h)

  pub lower_right_turned : (i : ℕ) → i < 32 → bit made.lower_right i ≡ turned_window 1 window solid (2 * i + 2) (2 * j + 2)
  lower_right_turned i h = is.lower_right i h ∙ turned_corner window solid (2 * i + 2) (2 * j + 2) _ _ _ _ _ _ _ _ _ _ _ (second_placed i) (second_placed j) (named i h) (lower_shown i h) (sym (s.lower_left i h)) (upper_shown i h) (sym (s.upper_left i h))

-- right corners in their columns
pub landed : (test : ℕ → Bool) (word coming made : ℕ) → ((i : ℕ) → i < 32 → bit word i ≡ (if i == 0 then bit coming 31 else bit made (i - 1))) → bit coming 31 ≡ test 0 → ((i : ℕ) → i < 32 → bit made i ≡ test (2 * i + 2)) → (i : ℕ) → i < 32 → bit word i ≡ test (2 * i)
landed test word coming made is first others i h =
    elim (cases_eq i 0) [
      | inl e ↦ is i h ∙ (rw (eq-eqb i 0 e) first ∙ ap test (let z : 0 ≡ 2 * i = omega arith in z))
      | inr ne ↦ is i h ∙ (rw (ne_eqb i 0 ne) (others (i - 1) (omega arith)) ∙ ap test (let z : 2 * (i - 1) + 2 ≡ 2 * i = omega arith in z))
    ]

-- what is carried on, by two lists of words
abbrev beside_of : List ℕ → List ℕ → ℕ → Beside
beside_of upper lower m = record { upper = get_or upper m 0; lower = get_or lower m 0 }

-- a tile after one of its rows of blocks is written
abbrev pub row_written : Tile → ℕ → Blocks → Tile
row_written t j new =
    record {
      even_even = set t.even_even (j + 1) new.lower_right;
      odd_even = set t.odd_even (j + 1) new.lower_left;
      even_odd = set t.even_odd j new.upper_right;
      odd_odd = set t.odd_odd j new.upper_left;
    }

pub rows_more : (P : ℕ → Blocks → Type 0) (t : Tile) (new : Blocks) (j : ℕ) → j + 1 < length t.even_even → j + 1 < length t.odd_even → j < length t.even_odd → j < length t.odd_odd → ((m : ℕ) → m < j → P m (odd_row t m)) → P j new → (m : ℕ) → m < j + 1 → P m (odd_row (row_written t j new) m)
rows_more P t new j ee oe eo oo before here m below = grind (arith, cases_eq, get_or-set_same, get_or-set_other)

pub rows_left : (from : ℕ) (t old : Tile) (new : Blocks) (j : ℕ) → from ≤ j → ((m : ℕ) → (m < from) ⊎ (j ≤ m) → odd_row t m ≡ odd_row old m) → (m : ℕ) → (m < from) ⊎ (j + 1 ≤ m) → odd_row (row_written t j new) m ≡ odd_row old m
rows_left from t old new j low before m apart = grind (arith, cases_eq, get_or-set_other)

pub beside_more : (P : ℕ → Beside → Type 0) (upper lower : List ℕ) (u l j : ℕ) → j < length upper → j < length lower → ((m : ℕ) → m < j → P m (record { upper = get_or upper m 0; lower = get_or lower m 0 })) → P j (record { upper = u; lower = l }) → (m : ℕ) → m < j + 1 → P m (record { upper = get_or (set upper j u) m 0; lower = get_or (set lower j l) m 0 })
beside_more P upper lower u l j up low before here m below = grind (arith, cases_eq, get_or-set_same, get_or-set_other)

pub beside_left : (from : ℕ) (upper lower old others : List ℕ) (u l j : ℕ) → from ≤ j → ((m : ℕ) → (m < from) ⊎ (j ≤ m) → beside_of upper lower m ≡ beside_of old others m) → (m : ℕ) → (m < from) ⊎ (j + 1 ≤ m) → beside_of (set upper j u) (set lower j l) m ≡ beside_of old others m
beside_left from upper lower old others u l j low before m apart = grind (arith, cases_eq, get_or-set_other)

pub places_written : (upper lower some others : List ℕ) (at k : ℕ) → at + k < length upper → at + k < length lower → ((m : ℕ) → m < k → beside_of upper lower (at + m) ≡ beside_of some others m) → (m : ℕ) → m < k + 1 → beside_of (set upper (at + k) (get_or some k 0)) (set lower (at + k) (get_or others k 0)) (at + m) ≡ beside_of some others m
places_written upper lower some others at k up low before m below = grind (arith, cases_eq, get_or-set_same, get_or-set_other)

pub places_left : (upper lower old before : List ℕ) (u l at k : ℕ) → ((p : ℕ) → (p < at) ⊎ (at + k ≤ p) → beside_of upper lower p ≡ beside_of old before p) → (p : ℕ) → (p < at) ⊎ (at + (k + 1) ≤ p) → beside_of (set upper (at + k) u) (set lower (at + k) l) p ≡ beside_of old before p
places_left upper lower old before u l at k same p apart = grind (arith, cases_eq, get_or-set_other)

-- what is shown of a row of blocks whose words are as before
pub begun_shown : (window : ℕ → ℕ → Bool) (j : ℕ) (own old : Blocks) (right beside : Beside) → own ≡ old → right ≡ beside → ShowsBegun window j old beside → ShowsBegun window j own right
begun_shown window j own old right beside e f s = rw (e, f) s

pub leaving_kept : (column : ℕ → Bool) (j : ℕ) (now old : Beside) → now ≡ old → IsLeaving old column j → IsLeaving now column j
leaving_kept column j now old e is = rw e is

pub ends_left : (t old : Tile) (new : Blocks) (j : ℕ) → j < 31 → AreEndsKept old t → AreEndsKept old (row_written t j new)
ends_left t old new j below are = grind (arith, get_or-set_other)

pub row_named_alike : (word begin : ℕ) (solid : ℕ → ℕ → Bool) (j : ℕ) → word ≡ begin → NamesRow begin solid j → NamesRow word solid j
row_named_alike word begin solid j e named = rw e named

-- rows of which a word tells that none of their blocks is walled
pub rows_free : (set : SetBlocks) (from to : ℕ) (solid : ℕ → ℕ → Bool) → to < 32 → NamesBlocks set.rows set.blocks.now (walled_by solid) → ((j : ℕ) → from ≤ j → j < to → bit set.rows j ≡ false) → AreNamed from to (λ _. 0) solid
rows_free set from to solid small named none j h k i within =
    let half : (2 * j + 1) / 2 ≡ j = omega arith in
    bit-zero i ∙ (sym (named.rows 1 (omega arith) (2 * i + 1) (2 * j + 1) (omega arith) (omega arith) (ap (bit set.rows) half ∙ none j h k)) ∙ ap₂ (is_block_walled solid) (IsPlaced.begin (first_placed i)) (IsPlaced.begin (first_placed j)))

-- rows that turn after others
module _ (from mid to : ℕ) (old now new : Tile) (before during after : Carry) (first : AreOthersKept from mid old now before during) (more : AreOthersKept mid to now new during after) where
  pub seen_more : (window : ℕ → ℕ → Bool) (r : Tile) → AreRowsSeen mid to window old r → AreRowsSeen mid to window now r
  seen_more window r are j h k = begun_shown window j (odd_row now j) (odd_row old j) (beside_right r j) (beside_right r j) (first.rows j (inr h)) refl (are j h k)

  pub carried_more : (column : ℕ → Bool) → AreCarried mid to before column → AreCarried mid to during column
  carried_more column are j h k = leaving_kept column j _ _ (first.carried j (inr h)) (are j h k)

  pub turned_both : (test : ℕ → ℕ → Bool) → HaveTurned from mid now test → HaveTurned mid to new test → HaveTurned from to new test
  turned_both test some others j h k =
      elim (cases_lt j mid) [
        | inl less ↦ subst (λ row. IsRowTurned row test j) (sym (more.rows j (inl less))) (some j h less)
        | inr above ↦ others j above k
      ]

  pub carried_both : (column : ℕ → Bool) → AreCarried from mid during column → AreCarried mid to after column → AreCarried from to after column
  carried_both column some others j h k =
      elim (cases_lt j mid) [
        | inl less ↦ leaving_kept column j _ _ (more.carried j (inl less)) (some j h less)
        | inr above ↦ others j above k
      ]

  pub others_kept : from ≤ mid → mid ≤ to → AreOthersKept from to old new before after
  others_kept low high =
      record {
        rows = λ j. elim [
          | inl less ↦ more.rows j (inl (omega arith)) ∙ first.rows j (inl less)
          | inr above ↦ more.rows j (inr above) ∙ first.rows j (inr (omega arith))
        ];
        carried = λ j. elim [
          | inl less ↦ more.carried j (inl (omega arith)) ∙ first.carried j (inl less)
          | inr above ↦ more.carried j (inr above) ∙ first.carried j (inr (omega arith))
        ];
      }

pub ends_both : (old now new : Tile) → AreEndsKept old now → AreEndsKept now new → AreEndsKept old new
ends_both old now new first more = record { top_even = more.top_even ∙ first.top_even; top_odd = more.top_odd ∙ first.top_odd; bottom_even = more.bottom_even ∙ first.bottom_even; bottom_odd = more.bottom_odd ∙ first.bottom_odd }

-- eight rows that are written after they were made
module _ (from : ℕ) (old new : Tile) (rows : EightRows) (written : (k : ℕ) → k < 8 → odd_row new (from + k) ≡ eight_row rows k)
    (upper_rest : (j : ℕ) → (j < from) ⊎ (from + 8 ≤ j) → (get_or new.odd_odd j 0 ≡ get_or old.odd_odd j 0) × (get_or new.even_odd j 0 ≡ get_or old.even_odd j 0))
    (lower_rest : (j : ℕ) → (j ≤ from) ⊎ (from + 8 < j) → (get_or new.odd_even j 0 ≡ get_or old.odd_even j 0) × (get_or new.even_even j 0 ≡ get_or old.even_even j 0)) where
  pub eight_turned : (test : ℕ → ℕ → Bool) → ((k : ℕ) → k < 8 → IsRowTurned (eight_row rows k) test (from + k)) → HaveTurned from (from + 8) new test
  eight_turned test made j h k =
      let at : from + (j - from) ≡ j = omega arith in
      subst (λ m. IsRowTurned (odd_row new m) test m) at (subst (λ row. IsRowTurned row test (from + (j - from))) (sym (written (j - from) (omega arith))) (made (j - from) (omega arith)))

  pub rows_kept : (j : ℕ) → (j < from) ⊎ (from + 8 ≤ j) → odd_row new j ≡ odd_row old j
  rows_kept j apart =
      let upper = upper_rest j apart in
      let lower = lower_rest (j + 1) (elim apart [ inl less ↦ inl (omega arith) | inr above ↦ inr (omega arith) ]) in
      rw (upper.0, upper.1, lower.0, lower.1) refl

-- the places of eight rows, which are all others' or among them
pub places_from : (from : ℕ) (c : Carry) (column : ℕ → Bool) → AreCarried from (from + 8) c column → AreEightCarried from from c column
places_from from c column are k few = are (from + k) (omega arith) (omega arith)

pub places_to : (from : ℕ) (c : Carry) (column : ℕ → Bool) → AreEightCarried from from c column → AreCarried from (from + 8) c column
places_to from c column are j h k = let at : from + (j - from) ≡ j = omega arith in subst (λ m. IsLeaving (carried_row c m) column m) at (are (j - from) (omega arith))

-- all places: those of the last rows get theirs before or after the others
pub all_carried : (mid new : Carry) (column : ℕ → Bool) → AreCarried 0 24 new column → AreEightCarried 23 24 mid column → AreOthersCarried 0 24 mid new → IsCarried new column
all_carried mid new column some others kept = record { first = λ j h. some j (omega arith) h; last = λ k h. leaving_kept column (23 + k) _ _ (kept (24 + k) (inr (omega arith))) (others k h) }

pub first_carried : (old mid : Carry) (column : ℕ → Bool) → IsCarried old column → AreOthersCarried 24 32 old mid → AreCarried 0 24 mid column
first_carried old mid column are kept j h k = leaving_kept column j _ _ (kept j (inl k)) (are.first j k)

pub none_carried : IsCarried (record { upper = replicate 32 0; lower = replicate 32 0 }) (λ _. false)
none_carried =
    let nothing : (p : ℕ) → bit (get_or (replicate {A = ℕ} 32 0) p 0) 31 ≡ false = λ p. ap (λ w. bit w 31) (get_or-replicate_zero 32 p) ∙ bit-zero 31 in
    record { first = λ j h. record { upper = nothing j; lower = nothing j }; last = λ k h. record { upper = nothing (24 + k); lower = nothing (24 + k) } }

-- a tile's rows of blocks in a window
module _ (window : ℕ → ℕ → Bool) (t r : Tile) (s : IsInnerSeen window t r) where
  tile_seen : (x y u v : ℕ) (b : Bool) → x < 64 → 1 ≤ y → y < 63 → x + 1 ≡ u → y + 1 ≡ v → has t x y ≡ b → window u v ≡ b
  tile_seen x y u v b h low high e f is = sym (ap₂ window e f) ∙ (s.tile x y h low high ∙ is)

  right_seen : (y v : ℕ) (b : Bool) → 1 ≤ y → y < 63 → y + 1 ≡ v → has r 0 y ≡ b → window 65 v ≡ b
  right_seen y v b low high f is = sym (ap (window 65) f) ∙ (s.right y low high ∙ is)

  row_seen : (j : ℕ) → j < 31 → ShowsBegun window j (odd_row t j) (beside_right r j)
  row_seen j h =
      record {
        upper_left = λ i k. tile_seen (2 * i + 1) (2 * j + 1) _ _ _ (omega arith) (omega arith) (omega arith) (omega arith) (omega arith) (odd_odd_at t i j);
        upper_right = λ i k. tile_seen (2 * i) (2 * j + 1) _ _ _ (omega arith) (omega arith) (omega arith) refl (omega arith) (even_odd_at t i j);
        lower_left = λ i k. tile_seen (2 * i + 1) (2 * (j + 1)) _ _ _ (omega arith) (omega arith) (omega arith) (omega arith) (omega arith) (odd_even_at t i (j + 1));
        lower_right = λ i k. tile_seen (2 * i) (2 * (j + 1)) _ _ _ (omega arith) (omega arith) (omega arith) refl (omega arith) (even_even_at t i (j + 1));
        right_upper = right_seen (2 * j + 1) _ _ (omega arith) (omega arith) (omega arith) (even_odd_at r 0 j);
        right_lower = right_seen (2 * (j + 1)) _ _ (omega arith) (omega arith) (omega arith) (even_even_at r 0 (j + 1));
      }

  pub rows_seen : (from to : ℕ) → to ≤ 31 → AreRowsSeen from to window t r
  rows_seen from to small j h k = row_seen j (omega arith)

-- a tile's cells by its rows of blocks
pub cells_turned : (t : Tile) (test : ℕ → ℕ → Bool) → HaveTurned 0 31 t test → (x y : ℕ) → x < 64 → 1 ≤ y → y < 63 → has t x y ≡ test x y
cells_turned t test rows x y h low high =
    elim (cases_eq (y % 2) 0) [
      | inl even_y ↦
          let row : 2 * (y / 2 - 1 + 1) ≡ y = omega (arith, even_y) in
          let also : 2 * (y / 2 - 1) + 2 ≡ y = omega (arith, even_y) in
          let is = rows (y / 2 - 1) (omega arith) (omega arith) in
          elim (cases_eq (x % 2) 0) [
            | inl even_x ↦
                let column : 2 * (x / 2) ≡ x = omega (arith, even_x) in
                sym (ap₂ (has t) column row) ∙ (even_even_at t (x / 2) (y / 2 - 1 + 1) ∙ (is.lower_right (x / 2) (omega arith) ∙ ap₂ test column also))
            | inr odd_x ↦
                let column : 2 * (x / 2) + 1 ≡ x = omega (arith, odd_x) in
                sym (ap₂ (has t) column row) ∙ (odd_even_at t (x / 2) (y / 2 - 1 + 1) ∙ (is.lower_left (x / 2) (omega arith) ∙ ap₂ test column also))
          ]
      | inr odd_y ↦
          let row : 2 * (y / 2) + 1 ≡ y = omega (arith, odd_y) in
          let is = rows (y / 2) (omega arith) (omega arith) in
          elim (cases_eq (x % 2) 0) [
            | inl even_x ↦
                let column : 2 * (x / 2) ≡ x = omega (arith, even_x) in
                sym (ap₂ (has t) column row) ∙ (even_odd_at t (x / 2) (y / 2) ∙ (is.upper_right (x / 2) (omega arith) ∙ ap₂ test column row))
            | inr odd_x ↦
                let column : 2 * (x / 2) + 1 ≡ x = omega (arith, odd_x) in
                sym (ap₂ (has t) column row) ∙ (odd_odd_at t (x / 2) (y / 2) ∙ (is.upper_left (x / 2) (omega arith) ∙ ap₂ test column row))
          ]
    ]

row_kept : (test : ℕ → ℕ → Bool) (t u : Tile) (j : ℕ) → (get_or u.odd_odd j 0 ≡ get_or t.odd_odd j 0) × (get_or u.even_odd j 0 ≡ get_or t.even_odd j 0) → (get_or u.odd_even (j + 1) 0 ≡ get_or t.odd_even (j + 1) 0) × (get_or u.even_even (j + 1) 0 ≡ get_or t.even_even (j + 1) 0)
    → IsRowTurned (odd_row t j) test j → IsRowTurned (odd_row u j) test j
row_kept test t u j e f is = rw (e.0, e.1, f.0, f.1) is

-- all rows: the last eight are written after the others have turned
pub all_turned : (test : ℕ → ℕ → Bool) (mid new : Tile) (rows : EightRows) → HaveTurned 0 24 mid test → ((k : ℕ) → k < 8 → IsRowTurned (eight_row rows k) test (23 + k))
    → ((k : ℕ) → k < 8 → odd_row new (23 + k) ≡ eight_row rows k)
    → ((j : ℕ) → (j < 23) ⊎ (31 ≤ j) → (get_or new.odd_odd j 0 ≡ get_or mid.odd_odd j 0) × (get_or new.even_odd j 0 ≡ get_or mid.even_odd j 0))
    → ((j : ℕ) → (j ≤ 23) ⊎ (31 < j) → (get_or new.odd_even j 0 ≡ get_or mid.odd_even j 0) × (get_or new.even_even j 0 ≡ get_or mid.even_even j 0))
    → HaveTurned 0 31 new test
all_turned test mid new rows first last written upper_rest lower_rest j low below =
    elim (cases_lt j 23) [
      | inl less ↦ row_kept test mid new j (upper_rest j (inl less)) (lower_rest (j + 1) (inl (omega arith))) (first j low (omega arith))
      | inr more ↦
          let at : 23 + (j - 23) ≡ j = omega arith in
          subst (λ m. IsRowTurned (odd_row new m) test m) at (subst (λ row. IsRowTurned row test (23 + (j - 23))) (sym (written (j - 23) (omega arith))) (last (j - 23) (omega arith)))
    ]

-- the first and the last row of cells
pub top_same : (old new : Tile) → AreEndsKept old new → (x : ℕ) → x < 64 → has new x 0 ≡ has old x 0
top_same old new are x h = sym (row_even new x 0 refl) ∙ (ap₂ (λ a b. if x % 2 == 0 then bit a (x / 2) else bit b (x / 2)) are.top_even are.top_odd ∙ row_even old x 0 refl)

pub bottom_same : (old new : Tile) → AreEndsKept old new → (x : ℕ) → x < 64 → has new x 63 ≡ has old x 63
bottom_same old new are x h = sym (row_odd new x 63 refl) ∙ (ap₂ (λ a b. if x % 2 == 0 then bit a (x / 2) else bit b (x / 2)) are.bottom_even are.bottom_odd ∙ row_odd old x 63 refl)

pub ends_kept : (old mid new : Tile) → AreEndsKept old mid → (get_or new.odd_odd 31 0 ≡ get_or mid.odd_odd 31 0) × (get_or new.even_odd 31 0 ≡ get_or mid.even_odd 31 0) → (get_or new.odd_even 0 0 ≡ get_or mid.odd_even 0 0) × (get_or new.even_even 0 0 ≡ get_or mid.even_even 0 0) → AreEndsKept old new
ends_kept old mid new are e f = record { top_even = f.1 ∙ are.top_even; top_odd = f.0 ∙ are.top_odd; bottom_even = e.1 ∙ are.bottom_even; bottom_odd = e.0 ∙ are.bottom_odd }

-- the seam
pub seam_shown : (window : ℕ → ℕ → Bool) (t r d dr : Tile) → IsSeamSeen window t r d dr
    → ShowsBegun window 31 (record { upper_left = get_or t.odd_odd 31 0; upper_right = get_or t.even_odd 31 0; lower_left = get_or d.odd_even 0 0; lower_right = get_or d.even_even 0 0 }) (record { upper = get_or r.even_odd 31 0; lower = get_or dr.even_even 0 0 })
seam_shown window t r d dr s =
    record {
      upper_left = λ i k. ap (λ u. window u 64) (let e : 2 * i + 2 ≡ 2 * i + 1 + 1 = omega arith in e) ∙ (s.tile (2 * i + 1) (omega arith) ∙ odd_odd_at t i 31);
      upper_right = λ i k. s.tile (2 * i) (omega arith) ∙ even_odd_at t i 31;
      lower_left = λ i k. ap (λ u. window u 65) (let e : 2 * i + 2 ≡ 2 * i + 1 + 1 = omega arith in e) ∙ (s.below (2 * i + 1) (omega arith) ∙ odd_even_at d i 0);
      lower_right = λ i k. s.below (2 * i) (omega arith) ∙ even_even_at d i 0;
      right_upper = s.right ∙ even_odd_at r 0 31;
      right_lower = s.below_right ∙ even_even_at dr 0 0;
    }

-- a row of cells by the words of its classes
pub odd_row_of : (t : Tile) (test : ℕ → Bool) (y odd even : ℕ) → y % 2 ≡ 1 → get_or t.odd_odd (y / 2) 0 ≡ odd → get_or t.even_odd (y / 2) 0 ≡ even → ((i : ℕ) → i < 32 → bit odd i ≡ test (2 * i + 1)) → ((i : ℕ) → i < 32 → bit even i ≡ test (2 * i)) → (x : ℕ) → x < 64 → has t x y ≡ test x
odd_row_of t test y odd even odd_y e f is_odd is_even x h =
    elim (cases_eq (x % 2) 0) [
      | inl even_x ↦ in_even_odd t x y even_x odd_y ∙ (ap (λ w. bit w (x / 2)) f ∙ (is_even (x / 2) (omega arith) ∙ ap test (let z : 2 * (x / 2) ≡ x = omega (arith, even_x) in z)))
      | inr odd_x ↦ in_odd_odd t x y (omega (arith, odd_x)) odd_y ∙ (ap (λ w. bit w (x / 2)) e ∙ (is_odd (x / 2) (omega arith) ∙ ap test (let z : 2 * (x / 2) + 1 ≡ x = omega (arith, odd_x) in z)))
    ]

pub even_row_of : (t : Tile) (test : ℕ → Bool) (y odd even : ℕ) → y % 2 ≡ 0 → get_or t.odd_even (y / 2) 0 ≡ odd → get_or t.even_even (y / 2) 0 ≡ even → ((i : ℕ) → i < 32 → bit odd i ≡ test (2 * i + 1)) → ((i : ℕ) → i < 32 → bit even i ≡ test (2 * i)) → (x : ℕ) → x < 64 → has t x y ≡ test x
even_row_of t test y odd even even_y e f is_odd is_even x h =
    elim (cases_eq (x % 2) 0) [
      | inl even_x ↦ in_even_even t x y even_x even_y ∙ (ap (λ w. bit w (x / 2)) f ∙ (is_even (x / 2) (omega arith) ∙ ap test (let z : 2 * (x / 2) ≡ x = omega (arith, even_x) in z)))
      | inr odd_x ↦ in_odd_even t x y (omega (arith, odd_x)) even_y ∙ (ap (λ w. bit w (x / 2)) e ∙ (is_odd (x / 2) (omega arith) ∙ ap test (let z : 2 * (x / 2) + 1 ≡ x = omega (arith, odd_x) in z)))
    ]

-- cells of other rows are as before
pub bottom_rest : (t : Tile) (odd even : ℕ) (x y : ℕ) → x < 64 → y < 63 → has (record { even_even = t.even_even; odd_even = t.odd_even; even_odd = set t.even_odd 31 even; odd_odd = set t.odd_odd 31 odd }) x y ≡ has t x y
bottom_rest t odd even x y h k = grind (arith, cases_eq, in_even_even, in_even_odd, in_odd_even, in_odd_odd, get_or-set_other)

pub top_rest : (t : Tile) (odd even : ℕ) (x y : ℕ) → x < 64 → 1 ≤ y → y < 64 → has (record { even_even = set t.even_even 0 even; odd_even = set t.odd_even 0 odd; even_odd = t.even_odd; odd_odd = t.odd_odd }) x y ≡ has t x y
top_rest t odd even x y h low k = grind (arith, cases_eq, in_even_even, in_even_odd, in_odd_even, in_odd_odd, get_or-set_other)

-- a tile after what comes from the left is put into one of its rows of blocks
abbrev first_put : Tile → ℕ → ℕ → ℕ → Tile
first_put t j upper lower = record { even_even = set t.even_even (j + 1) lower; odd_even = t.odd_even; even_odd = set t.even_odd j upper; odd_odd = t.odd_odd }

module _ (t : Tile) (j upper lower : ℕ) (coming : Beside) (is_upper : (i : ℕ) → i < 32 → bit upper i ≡ (if i == 0 then bit coming.upper 31 else bit (get_or t.even_odd j 0) i)) (is_lower : (i : ℕ) → i < 32 → bit lower i ≡ (if i == 0 then bit coming.lower 31 else bit (get_or t.even_even (j + 1) 0) i))
    (small : j < 31) (in_upper : j < length t.even_odd) (in_lower : j + 1 < length t.even_even) where
  upper_first : has (first_put t j upper lower) 0 (2 * j + 1) ≡ bit coming.upper 31
  upper_first = even_odd_at (first_put t j upper lower) 0 j ∙ (ap (λ w. bit w 0) (get_or-set_same t.even_odd j upper 0 in_upper) ∙ is_upper 0 (omega arith))

  lower_first : has (first_put t j upper lower) 0 (2 * (j + 1)) ≡ bit coming.lower 31
  lower_first = even_even_at (first_put t j upper lower) 0 (j + 1) ∙ (ap (λ w. bit w 0) (get_or-set_same t.even_even (j + 1) lower 0 in_lower) ∙ is_lower 0 (omega arith))

  upper_left : (i m : ℕ) → i < 32 → (i ≡ 0 → m ≡ j → ⊥) → bit (get_or (set t.even_odd j upper) m 0) i ≡ bit (get_or t.even_odd m 0) i
  upper_left i m h other =
      elim (cases_eq m j) [
        | inl e ↦ ap (λ n. bit (get_or (set t.even_odd j upper) n 0) i) e ∙ (ap (λ w. bit w i) (get_or-set_same t.even_odd j upper 0 in_upper) ∙ (is_upper i h ∙ (rw (ne_eqb i 0 (λ z. other z e)) (ap (λ n. bit (get_or t.even_odd n 0) i) (sym e)))))
        | inr ne ↦ ap (λ w. bit w i) (get_or-set_other t.even_odd j m upper 0 ne)
      ]

  lower_left : (i m : ℕ) → i < 32 → (i ≡ 0 → m ≡ j + 1 → ⊥) → bit (get_or (set t.even_even (j + 1) lower) m 0) i ≡ bit (get_or t.even_even m 0) i
  lower_left i m h other =
      elim (cases_eq m (j + 1)) [
        | inl e ↦ ap (λ n. bit (get_or (set t.even_even (j + 1) lower) n 0) i) e ∙ (ap (λ w. bit w i) (get_or-set_same t.even_even (j + 1) lower 0 in_lower) ∙ (is_lower i h ∙ (rw (ne_eqb i 0 (λ z. other z e)) (ap (λ n. bit (get_or t.even_even n 0) i) (sym e)))))
        | inr ne ↦ ap (λ w. bit w i) (get_or-set_other t.even_even (j + 1) m lower 0 ne)
      ]

  others_left : HasOtherCells (2 * j) (2 * (j + 1)) t (first_put t j upper lower)
  others_left x y h k other =
      elim (cases_eq (x % 2) 0) [
        | inl even_x ↦ elim (cases_eq (y % 2) 0) [
          | inl even_y ↦ in_even_even (first_put t j upper lower) x y even_x even_y ∙ (lower_left (x / 2) (y / 2) (omega arith) (λ z e. other (omega (arith, z, even_x)) (omega (arith, e, even_y)) (omega (arith, e, even_y))) ∙ sym (in_even_even t x y even_x even_y))
          | inr ne ↦ in_even_odd (first_put t j upper lower) x y even_x (omega (arith, ne)) ∙ (upper_left (x / 2) (y / 2) (omega arith) (λ z e. other (omega (arith, z, even_x)) (omega (arith, e, ne)) (omega (arith, e, ne))) ∙ sym (in_even_odd t x y even_x (omega (arith, ne))))
        ]
        | inr odd_x ↦ elim (cases_eq (y % 2) 0) [
          | inl even_y ↦ in_odd_even (first_put t j upper lower) x y (omega (arith, odd_x)) even_y ∙ sym (in_odd_even t x y (omega (arith, odd_x)) even_y)
          | inr ne ↦ in_odd_odd (first_put t j upper lower) x y (omega (arith, odd_x)) (omega (arith, ne)) ∙ sym (in_odd_odd t x y (omega (arith, odd_x)) (omega (arith, ne)))
        ]
      ]

  pub column_more : (column : ℕ → Bool) (from : ℕ) → from ≤ j → ((y : ℕ) → 2 * from < y → y ≤ 2 * j → has t 0 y ≡ column y) → IsLeaving coming column j → (y : ℕ) → 2 * from < y → y ≤ 2 * (j + 1) → has (first_put t j upper lower) 0 y ≡ column y
  column_more column from low before here y above below =
      elim (cases_eq y (2 * j + 1)) [
        | inl e ↦ subst (λ n. has (first_put t j upper lower) 0 n ≡ column n) (sym e) (upper_first ∙ here.upper)
        | inr ne ↦ elim (cases_eq y (2 * j + 2)) [
          | inl e ↦ subst (λ n. has (first_put t j upper lower) 0 n ≡ column n) (sym e) (ap (has (first_put t j upper lower) 0) (let z : 2 * j + 2 ≡ 2 * (j + 1) = omega arith in z) ∙ (lower_first ∙ here.lower))
          | inr more ↦ others_left 0 y (omega arith) (omega (arith, small, below)) (λ z l h. absurd (omega (arith, ne, more, l, h))) ∙ before y above (omega (arith, ne, more, below))
        ]
      ]

  pub others_more : (old : Tile) (from : ℕ) → from ≤ j → HasOtherCells (2 * from) (2 * j) old t → HasOtherCells (2 * from) (2 * (j + 1)) old (first_put t j upper lower)
  others_more old from low before x y h k other = others_left x y h k (λ z l m. other z (omega (arith, l, low)) m) ∙ before x y h k (λ z l m. other z l (omega (arith, m)))

-- the words of walled blocks that begin in a tile
pub begins_named : (from to : ℕ) (begins ends : ℕ → ℕ) (solid : ℕ → ℕ → Bool) → to ≤ 32 → NameBlocks begins ends solid → AreNamed from to begins solid
begins_named from to begins ends solid small are j h k i within = are.begin i (j + 1) within (omega arith) ∙ ap (is_block_walled solid (2 * i + 2)) (let e : 2 * (j + 1) ≡ 2 * j + 2 = omega arith in e)

pub none_begins : (from to : ℕ) (solid : ℕ → ℕ → Bool) → to ≤ 32 → HasNoCell (is_walled_at 1 solid) → AreNamed from to (λ _. 0) solid
none_begins from to solid small none j h k i within = bit-zero i ∙ (sym (none (2 * i + 1) (2 * j + 1) (omega arith) (omega arith)) ∙ ap₂ (is_block_walled solid) (IsPlaced.begin (first_placed i)) (IsPlaced.begin (first_placed j)))

-- the blocks that are given
pub none_given : (given : Option SetBlocks) (from to : ℕ) (solid : ℕ → ℕ → Bool) → to ≤ 32 → given ≡ None → AreGivenBlocks given (walled_by solid) → AreNamed from to (λ _. 0) solid
none_given given from to solid small e is = none_begins from to solid small (nothing_given given (walled_by solid) e is 1 (omega arith))

pub set_given : (set : SetBlocks) (from to : ℕ) (solid : ℕ → ℕ → Bool) → to ≤ 32 → NamesBlocks set.rows set.blocks.now (walled_by solid) → AreNamed from to (λ k. get_or set.blocks.now.odd.begin k 0) solid
set_given set from to solid small named = begins_named from to _ _ solid small (one_named set.blocks.now.odd solid named.odd)
