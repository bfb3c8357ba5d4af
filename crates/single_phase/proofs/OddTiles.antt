-- A tile at odd parity, row of blocks by row.
use Rattle.std.proofs.Common.{◌≡◌, refl, ◌⊎◌, ℕ, ◌+◌, ◌-◌, ◌*◌, ◌<◌, ◌≤◌, Bool, List, length, get_or, set, sym, subst, ◌∙◌, ap₂, arith, inl, inr, get_or-set_other, get_or-set_same}
use Rattle.std.proofs.lemmas.Bool.{cases_eq, cases_lt}
use Rattle.bit_tile.specs.Bit.{bit}
use Rattle.bit_tile.specs.Tile.{HasCells}
use Rattle.bit_tile.specs.declared.Tile.{Tile}
use Rattle.bit_tile.proofs.Classes.{by_class}
use Rattle.block_rule.specs.Around.{block_start, is_block_walled, is_walled_at, turned_window}
use Rattle.block_rule.specs.Cell.{made, turned_cell}
use Rattle.block_rule.specs.NamedBlocks.{NameBlocks}
use Rattle.block_rule.specs.Rows.{odd_row}
use Rattle.block_rule.specs.declared.blocks.Blocks.{Blocks}
use Rattle.block_rule.proofs.Around.{turned_by_cells}
use Rattle.block_rule.proofs.NamedBlocks.{odd_start, even_start}
use Rattle.block_rule.proofs.Windows.{made_by_places, partner_first, partner_second}
use Rattle.single_phase.specs.OddTiles.{AreUpper, AreLower, AreMadeOdd, IsCollidedOdd, rule_among, AreMadeUpTo}

-- the odd blocks' cells
pub odd_cells : (rule : ℕ → ℕ → Bool → Bool → Bool → Bool → Bool) (window : ℕ → ℕ → Bool) (out : Tile) → ((j : ℕ) → j < 32 → AreUpper (λ i. rule (2 * i + 1) (2 * j + 1)) (λ i. rule (2 * i + 0) (2 * j + 1)) window (2 * j + 2) (get_or out.odd_odd j 0) (get_or out.even_odd j 0))
    → ((j : ℕ) → j < 32 → AreLower (λ i. rule (2 * i + 1) (2 * j + 0)) (λ i. rule (2 * i + 0) (2 * j + 0)) window (2 * j) (get_or out.odd_even j 0) (get_or out.even_even j 0)) → HasCells out (λ x y. made (rule x y) 1 window x y)
odd_cells rule window out upper lower =
    by_class out (λ x y. made (rule x y) 1 window x y)
    (λ i j h k.
    (lower j k).right i h
    ∙ sym (made_by_places (rule (2 * i + 0) (2 * j + 0)) 1 window (2 * i + 0) (2 * j + 0) (2 * i + 1) (2 * j + 1) (2 * i) (2 * j) (omega arith) (omega arith) (partner_second 1 (2 * i + 0) (omega arith) ∙ omega arith) (partner_second 1 (2 * j + 0) (omega arith) ∙ omega arith)))
    (λ i j h k.
    (lower j k).left i h
    ∙ sym (made_by_places (rule (2 * i + 1) (2 * j + 0)) 1 window (2 * i + 1) (2 * j + 0) (2 * i + 2) (2 * j + 1) (2 * i + 3) (2 * j) (omega arith) (omega arith) (partner_first 1 (2 * i + 1) (omega arith) ∙ omega arith) (partner_second 1 (2 * j + 0) (omega arith) ∙ omega arith)))
    (λ i j h k.
    (upper j k).right i h
    ∙ sym (made_by_places (rule (2 * i + 0) (2 * j + 1)) 1 window (2 * i + 0) (2 * j + 1) (2 * i + 1) (2 * j + 2) (2 * i) (2 * j + 2 + 1) (omega arith) (omega arith) (partner_second 1 (2 * i + 0) (omega arith) ∙ omega arith) (partner_first 1 (2 * j + 1) (omega arith) ∙ omega arith)))
    (λ i j h k.
    (upper j k).left i h
    ∙ sym (made_by_places (rule (2 * i + 1) (2 * j + 1)) 1 window (2 * i + 1) (2 * j + 1) (2 * i + 2) (2 * j + 2) (2 * i + 3) (2 * j + 2 + 1) (omega arith) (omega arith) (partner_first 1 (2 * i + 1) (omega arith) ∙ omega arith) (partner_first 1 (2 * j + 1) (omega arith) ∙ omega arith)))

pub upper_same : (l r : ℕ → Bool → Bool → Bool → Bool → Bool) (window : ℕ → ℕ → Bool) (y ul ur vl vr : ℕ) → ul ≡ vl → ur ≡ vr → AreUpper l r window y vl vr → AreUpper l r window y ul ur
upper_same l r window y ul ur vl vr e f is = rw (e, f) is

pub lower_same : (l r : ℕ → Bool → Bool → Bool → Bool → Bool) (window : ℕ → ℕ → Bool) (y z ll lr ml mr : ℕ) → y ≡ z → ll ≡ ml → lr ≡ mr → AreLower l r window z ml mr → AreLower l r window y ll lr
lower_same l r window y z ll lr ml mr d e f is = rw (d, e, f) is

-- rows that are made after others
module _ (rule : ℕ → ℕ → Bool → Bool → Bool → Bool → Bool) (window : ℕ → ℕ → Bool) where
  -- the words of the tile's rows 2 * j + 1 and 2 * j
  abbrev UpperAt : ℕ → Tile → Type 0
  UpperAt j t = AreUpper (λ i. rule (2 * i + 1) (2 * j + 1)) (λ i. rule (2 * i + 0) (2 * j + 1)) window (2 * j + 2) (get_or t.odd_odd j 0) (get_or t.even_odd j 0)

  abbrev LowerAfter : ℕ → Tile → Type 0
  LowerAfter j t = AreLower (λ i. rule (2 * i + 1) (2 * (j + 1) + 0)) (λ i. rule (2 * i + 0) (2 * (j + 1) + 0)) window (2 * j + 2) (get_or t.odd_even (j + 1) 0) (get_or t.even_even (j + 1) 0)

  pub uppers_more : (old new : Tile) (from to : ℕ) → ((j : ℕ) → j < from → UpperAt j old) → ((j : ℕ) → from ≤ j → j < to → AreMadeOdd rule window j (odd_row new j))
      → ((j : ℕ) → (j < from) ⊎ (to ≤ j) → (get_or new.odd_odd j 0 ≡ get_or old.odd_odd j 0) × (get_or new.even_odd j 0 ≡ get_or old.even_odd j 0))
      → (j : ℕ) → j < to → UpperAt j new
  uppers_more old new from to before rows rest j below = grind (arith, cases_lt, upper_same)

  pub lowers_more : (old new : Tile) (from to : ℕ) → ((j : ℕ) → j < from → LowerAfter j old) → ((j : ℕ) → from ≤ j → j < to → AreMadeOdd rule window j (odd_row new j))
      → ((j : ℕ) → (j ≤ from) ⊎ (to < j) → (get_or new.odd_even j 0 ≡ get_or old.odd_even j 0) × (get_or new.even_even j 0 ≡ get_or old.even_even j 0))
      → (j : ℕ) → j < to → LowerAfter j new
  lowers_more old new from to before rows rest j below = grind (arith, cases_lt, lower_same)

  pub upper_end : (odd even : List ℕ) (ul ur j : ℕ) → j ≡ 31 → 31 < length odd → 31 < length even → AreUpper (λ i. rule (2 * i + 1) (2 * 31 + 1)) (λ i. rule (2 * i + 0) (2 * 31 + 1)) window 64 ul ur
      → AreUpper (λ i. rule (2 * i + 1) (2 * j + 1)) (λ i. rule (2 * i + 0) (2 * j + 1)) window (2 * j + 2) (get_or (set odd 31 ul) j 0) (get_or (set even 31 ur) j 0)
  upper_end odd even ul ur j e h k is = rw (e, get_or-set_same odd 31 ul 0 h, get_or-set_same even 31 ur 0 k) is

  -- the lower words of row j, which is the one after row j - 1
  pub lower_next : (t : Tile) (odd even j : ℕ) → (j ≡ 0 → ⊥) → odd ≡ get_or t.odd_even j 0 → even ≡ get_or t.even_even j 0 → LowerAfter (j - 1) t → AreLower (λ i. rule (2 * i + 1) (2 * j + 0)) (λ i. rule (2 * i + 0) (2 * j + 0)) window (2 * j) odd even
  lower_next t odd even j some e f is = grind arith

pub upper_inner : (l r : ℕ → Bool → Bool → Bool → Bool → Bool) (window : ℕ → ℕ → Bool) (y : ℕ) (odd even : List ℕ) (ul ur j : ℕ) → (j ≡ 31 → ⊥) → AreUpper l r window y (get_or odd j 0) (get_or even j 0) → AreUpper l r window y (get_or (set odd 31 ul) j 0) (get_or (set even 31 ur) j 0)
upper_inner l r window y odd even ul ur j ne is = grind (arith, upper_same, get_or-set_other)

module _ (begins ends : ℕ → ℕ) (solid : ℕ → ℕ → Bool) (are : NameBlocks begins ends solid) where
  begin_at : (i k x y : ℕ) → i < 32 → k < 33 → block_start 1 x ≡ 2 * i + 2 → block_start 1 y ≡ 2 * k → bit (begins k) i ≡ is_walled_at 1 solid x y
  begin_at i k x y h below e f = are.begin i k h below ∙ sym (ap₂ (is_block_walled solid) e f)

  end_at : (i k x y : ℕ) → i < 32 → k < 33 → block_start 1 x ≡ 2 * i → block_start 1 y ≡ 2 * k → bit (ends k) i ≡ is_walled_at 1 solid x y
  end_at i k x y h below e f = are.end i k h below ∙ sym (ap₂ (is_block_walled solid) e f)

  -- the words of a row
  pub upper_named : (window : ℕ → ℕ → Bool) (k row y ul ur : ℕ) → k < 33 → block_start 1 row ≡ 2 * k → AreUpper (λ i. turned_cell (bit (begins k) i)) (λ i. turned_cell (bit (ends k) i)) window y ul ur
      → AreUpper (λ i. rule_among solid (2 * i + 1) row) (λ i. rule_among solid (2 * i + 0) row) window y ul ur
  upper_named window k row y ul ur below e is = grind (arith, begin_at, odd_start, end_at, even_start)

  pub lower_named : (window : ℕ → ℕ → Bool) (k row y ll lr : ℕ) → k < 33 → block_start 1 row ≡ 2 * k → AreLower (λ i. turned_cell (bit (begins k) i)) (λ i. turned_cell (bit (ends k) i)) window y ll lr
      → AreLower (λ i. rule_among solid (2 * i + 1) row) (λ i. rule_among solid (2 * i + 0) row) window y ll lr
  lower_named window k row y ll lr below e is = grind (arith, begin_at, odd_start, end_at, even_start)

  pub named_row_made : (window : ℕ → ℕ → Bool) (j : ℕ) (new : Blocks) → j < 31 → IsCollidedOdd (begins (j + 1)) (ends (j + 1)) window (2 * j + 2) new → AreMadeOdd (rule_among solid) window j new
  named_row_made window j new below is =
      let first : block_start 1 (2 * j + 1) ≡ 2 * (j + 1) = odd_start j ∙ omega arith in
      let next : block_start 1 (2 * (j + 1) + 0) ≡ 2 * (j + 1) = even_start (j + 1) in
      record {
        upper = upper_named window (j + 1) (2 * j + 1) (2 * j + 2) new.upper_left new.upper_right (omega arith) first is.upper;
        lower = lower_named window (j + 1) (2 * (j + 1) + 0) (2 * j + 2) new.lower_left new.lower_right (omega arith) next is.lower;
      }

-- the tile's cells after these rules
pub turned_of_rows : (window solid : ℕ → ℕ → Bool) (out : Tile) → HasCells out (λ x y. made (rule_among solid x y) 1 window x y) → HasCells out (turned_window 1 window solid)
turned_of_rows window solid out is x y h k = is x y h k ∙ sym (turned_by_cells 1 window (is_walled_at 1 solid x y) x y)

-- before the first
pub none_made : (window solid : ℕ → ℕ → Bool) (out : Tile) → AreMadeUpTo 0 window solid out
none_made window solid out j below inside = absurd (omega arith)

-- one row more
abbrev pub put_row : Tile → ℕ → Blocks → Tile
put_row t j b =
    record { even_even = set t.even_even (j + 1) b.lower_right; odd_even = set t.odd_even (j + 1) b.lower_left; even_odd = set t.even_odd j b.upper_right; odd_odd = set t.odd_odd j b.upper_left }

put_same : (words : List ℕ) (j w : ℕ) → j < length words → get_or (set words j w) j 0 ≡ w
put_same words j w room = get_or-set_same words j w 0 room

put_other : (words : List ℕ) (j m w : ℕ) → (m ≡ j → ⊥) → get_or (set words j w) m 0 ≡ get_or words m 0
put_other words j m w other = get_or-set_other words j m w 0 other

pub row_made : (j : ℕ) (begins ends : ℕ → ℕ) (window solid : ℕ → ℕ → Bool) (t : Tile) (b : Blocks) → NameBlocks begins ends solid → j < 31 → length t.odd_odd ≡ 32 → length t.even_odd ≡ 32 → length t.odd_even ≡ 32 → length t.even_even ≡ 32
    → IsCollidedOdd (begins (j + 1)) (ends (j + 1)) window (2 * j + 2) b → AreMadeUpTo j window solid t → AreMadeUpTo (j + 1) window solid (put_row t j b)
row_made j begins ends window solid t b named small ul ur ll lr is before m below inside =
    let rule = rule_among solid in
    let made = named_row_made begins ends solid named window j b small is in
    let here : AreMadeOdd rule window j (odd_row (put_row t j b) j) =
    record {
      upper = upper_same _ _ window _ _ _ _ _ (put_same t.odd_odd j b.upper_left (omega arith)) (put_same t.even_odd j b.upper_right (omega arith)) made.upper;
      lower = lower_same _ _ window _ _ _ _ _ _ refl (put_same t.odd_even (j + 1) b.lower_left (omega arith)) (put_same t.even_even (j + 1) b.lower_right (omega arith)) made.lower;
    } in
    let row : (m : ℕ) → j ≤ m → m < j + 1 → AreMadeOdd rule window m (odd_row (put_row t j b) m) =
    λ m h k. let e : j ≡ m = omega arith in subst (λ m. AreMadeOdd rule window m (odd_row (put_row t j b) m)) e here in
    record {
      upper =
          uppers_more rule window t (put_row t j b) j (j + 1) (λ m h. (before m h (omega arith)).upper) row
          (λ m far. let other : m ≡ j → ⊥ = λ e. elim far [ inl less ↦ omega arith | inr more ↦ omega arith ] in (put_other t.odd_odd j m b.upper_left other, put_other t.even_odd j m b.upper_right other)) m below;
      lower =
          lowers_more rule window t (put_row t j b) j (j + 1) (λ m h. (before m h (omega arith)).lower) row
          (λ m far. let other : m ≡ j + 1 → ⊥ = λ e. elim far [ inl less ↦ omega arith | inr more ↦ omega arith ] in (put_other t.odd_even (j + 1) m b.lower_left other, put_other t.even_even (j + 1) m b.lower_right other)) m below;
    }

-- the first row of cells stays
pub first_stays : (words : List ℕ) (j w first : ℕ) → get_or words 0 0 ≡ first → get_or (set words (j + 1) w) 0 0 ≡ first
first_stays words j w first is = put_other words (j + 1) 0 w (λ e. omega arith) ∙ is

-- a tile of whose rows all are made
pub tile_made : (n : ℕ) (begins ends : ℕ → ℕ) (out : Tile) (ul ur ll lr : ℕ) (window solid : ℕ → ℕ → Bool) → 31 ≤ n → 31 < length out.odd_odd → 31 < length out.even_odd → AreMadeUpTo n window solid out
    → NameBlocks begins ends solid → get_or out.odd_even 0 0 ≡ ll → get_or out.even_even 0 0 ≡ lr
    → AreLower (λ i. turned_cell (bit (begins 0) i)) (λ i. turned_cell (bit (ends 0) i)) window 0 ll lr → AreUpper (λ i. turned_cell (bit (begins 32) i)) (λ i. turned_cell (bit (ends 32) i)) window 64 ul ur
    → HasCells (record { even_even = out.even_even; odd_even = out.odd_even; even_odd = set out.even_odd 31 ur; odd_odd = set out.odd_odd 31 ul }) (turned_window 1 window solid)
tile_made n begins ends out ul ur ll lr window solid all odd_long even_long made named odd_top even_top at_top at_bottom =
    let rule = rule_among solid in
    let top = lower_named begins ends solid named window 0 (2 * 0 + 0) 0 ll lr (omega arith) (even_start 0) at_top in
    let last : block_start 1 (2 * 31 + 1) ≡ 2 * 32 = odd_start 31 in
    let bottom = upper_named begins ends solid named window 32 (2 * 31 + 1) 64 ul ur (omega arith) last at_bottom in
    turned_of_rows window solid _
    (odd_cells rule window _
    (λ j h.
    elim (cases_eq j 31) [
      | inl e ↦ upper_end rule window out.odd_odd out.even_odd ul ur j e odd_long even_long bottom
      | inr ne ↦ upper_inner _ _ window (2 * j + 2) out.odd_odd out.even_odd ul ur j ne (made j (omega arith) (omega arith)).upper
    ])
    (λ j h.
    elim (cases_eq j 0) [
      | inl e ↦ rw (e, odd_top, even_top) top
      | inr some ↦ lower_next rule window out _ _ j some refl refl (made (j - 1) (omega arith) (omega arith)).lower
    ]))
