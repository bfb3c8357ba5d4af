-- Cells are put in or taken out, tile by tile.
use Rattle.std.proofs.Common.{◌≡◌, ℕ, ◌+◌, ◌*◌, ◌/◌, ◌%◌, ◌<◌, ◌≤◌, ◌==◌, ◌&&◌, ◌||◌, not, Bool, true, false, nat_lt, nat_le, nat_eq, IsTrue, if◌then◌else◌, refl, sym, subst, ◌∙◌, ap, ap₂, arith, inl, inr}
use Rattle.std.proofs.lemmas.Nat.{same_from_place}
use Rattle.std.proofs.lemmas.Bool.{cases_eq, cases_lt, eq-eqb, ne_eqb}
use Rattle.std.proofs.lemmas.Bool.Decides.{nat_tests}
use Rattle.bit_tile.specs.Tile as tile
use Rattle.bit_tile.specs.Tile.{HasCells}
use Rattle.bit_tile.specs.declared.Tile.{Tile}
use Rattle.gas_terms.specs.Cells.{Cells, Rectangle, has, extent, IsFull, is_inside}
use Rattle.gas_terms.proofs.Cells.{has-cells_where, full-cells_where, same_cells_where, same_cells}
use Rattle.gas_plane.specs.Planes.{IsLattice, IsTileFrom, tile_of, with_tile, painted_where}
use Rattle.gas_plane.proofs.Places.{wide, tile_below}
use Rattle.gas_plane.proofs.Sweeps.{left_of, top_of, cell_across, cell_down}
use Rattle.gas_plane.proofs.Tilings.{choose_true, choose_false}

-- Painting leaves a lattice a lattice.
pub painted_lattice : (cells now : Cells) (test : ℕ → ℕ → Bool) (held : Bool) → IsLattice cells → now ≡ painted_where cells test held → IsLattice now
painted_lattice cells now test held is e =
    subst IsLattice (sym e) (record { sized = is.sized; full = full-cells_where cells.width cells.height (λ x y. if test x y then held else has cells x y) })

pub none_painted : (cells : Cells) (test : ℕ → ℕ → Bool) (held : Bool) → IsFull cells → ((x y : ℕ) → x < cells.width → y < cells.height → test x y ≡ false) → cells ≡ painted_where cells test held
none_painted cells test held full none = grind (arith, same_cells, full-cells_where, choose_false, has-cells_where)

pub same_painted : (cells : Cells) (test other : ℕ → ℕ → Bool) (held : Bool) → ((x y : ℕ) → x < cells.width → y < cells.height → test x y ≡ other x y) → painted_where cells test held ≡ painted_where cells other held
same_painted cells test other held same = grind (arith, same_cells_where)

two_choices : (a b held v : Bool) → (if b then held else (if a then held else v)) ≡ (if a || b then held else v)
two_choices true true held v = refl
two_choices true false held v = refl
two_choices false b held v = refl

pub painted_more : (cells now next : Cells) (test more all : ℕ → ℕ → Bool) (held : Bool) → now ≡ painted_where cells test held → next ≡ painted_where now more held → ((x y : ℕ) → x < cells.width → y < cells.height → (test x y || more x y) ≡ all x y) → next ≡ painted_where cells all held
painted_more cells now next test more all held so_far put same = grind (arith, same_cells_where, has-cells_where, two_choices)

-- one tile
pub tile_painted : (cells : Cells) (i : ℕ) (t part made : Tile) (held : Bool) → IsLattice cells → IsTileFrom t cells (left_of cells i) (top_of cells i) → HasCells made (λ x y. if tile.has part x y then held else tile.has t x y)
    → with_tile cells i made ≡ painted_where cells (λ x y. (tile_of cells x y == i) && tile.has part (x % 64) (y % 64)) held
tile_painted cells i t part made held is from of_made = grind (arith, same_cells_where, cases_eq, eq-eqb, wide, cell_across, cell_down, choose_true, ne_eqb, choose_false)

either : (a b : Bool) → (a || b) ≡ (if b then true else a)
either true true = refl
either true false = refl
either false true = refl
either false false = refl

pub put_in : (t part made : Tile) → HasCells made (λ x y. tile.has t x y || tile.has part x y) → HasCells made (λ x y. if tile.has part x y then true else tile.has t x y)
put_in t part made of x y p q = of x y p q ∙ either (tile.has t x y) (tile.has part x y)

without : (a b : Bool) → (a && not b) ≡ (if b then false else a)
without true true = refl
without true false = refl
without false true = refl
without false false = refl

pub taken_out : (t part made : Tile) → HasCells made (λ x y. tile.has t x y && not (tile.has part x y)) → HasCells made (λ x y. if tile.has part x y then false else tile.has t x y)
taken_out t part made of x y p q = of x y p q ∙ without (tile.has t x y) (tile.has part x y)

pub painted_as : (cells : Cells) (i : ℕ) (part : Tile) (held other : Bool) → held ≡ other → painted_where cells (λ x y. (tile_of cells x y == i) && tile.has part (x % 64) (y % 64)) held ≡ painted_where cells (λ x y. (tile_of cells x y == i) && tile.has part (x % 64) (y % 64)) other
painted_as cells i part held other e = ap (painted_where cells (λ x y. (tile_of cells x y == i) && tile.has part (x % 64) (y % 64))) e

-- a rectangle, tile by tile along a row of tiles
abbrev pub in_row : Rectangle → ℕ → ℕ → ℕ → ℕ → Bool
in_row r row column x y = (y / 64 == row) && nat_lt (x / 64) column && is_inside r x y

no_column : (ab c d : Bool) → ab ≡ false → (ab && c && d) ≡ false
no_column ab c d e = rw e refl

no_row : (a b c d : Bool) → (c && d) ≡ false → (a && b && c && d) ≡ false
no_row true true c d e = e
no_row true false c d e = refl
no_row false b c d e = refl

-- a rectangle has all 64 by 64 cells from a place on exactly if it spans their columns and rows
pub all_inside : (r : Rectangle) (left top x y : ℕ) → (r.x ≤ left) × (left + 64 ≤ r.x + r.w) → (r.y ≤ top) × (top + 64 ≤ r.y + r.h) → x < 64 → y < 64 → is_inside r (left + x) (top + y) ≡ true
all_inside r left top x y (a, b) (c, d) p q = grind (arith, nat_tests)

bounds : (r : Rectangle) (x y : ℕ) → is_inside r x y ≡ true → ((r.x ≤ x) × (x < r.x + r.w)) × ((r.y ≤ y) × (y < r.y + r.h))
bounds r x y h = ((grind (arith, nat_tests), grind (arith, nat_tests)), (grind (arith, nat_tests), grind (arith, nat_tests)))

pub spans_all : (r : Rectangle) (left top : ℕ) → ((x y : ℕ) → x < 64 → y < 64 → is_inside r (left + x) (top + y) ≡ true) → ((r.x ≤ left) × (left + 64 ≤ r.x + r.w)) × ((r.y ≤ top) × (top + 64 ≤ r.y + r.h))
spans_all r left top all =
    let first = bounds r (left + 0) (top + 0) (all 0 0 (omega arith) (omega arith)) in
    let last = bounds r (left + 63) (top + 63) (all 63 63 (omega arith) (omega arith)) in
    ((omega (arith, first.0.0), omega (arith, last.0.1)), (omega (arith, first.1.0), omega (arith, last.1.1)))

pub outside_columns : (r : Rectangle) (x y : ℕ) → (nat_le r.x x && nat_lt x (r.x + r.w)) ≡ false → is_inside r x y ≡ false
outside_columns r x y e = no_column (nat_le r.x x && nat_lt x (r.x + r.w)) (nat_le r.y y) (nat_lt y (r.y + r.h)) e

pub no_columns : (x w k : ℕ) → IsTrue (nat_eq w 0) → (nat_le x k && nat_lt k (x + w)) ≡ false
no_columns x w k none = grind (arith, nat_tests)

pub outside_rows : (r : Rectangle) (x y : ℕ) → (nat_le r.y y && nat_lt y (r.y + r.h)) ≡ false → is_inside r x y ≡ false
outside_rows r x y e = no_row (nat_le r.x x) (nat_lt x (r.x + r.w)) (nat_le r.y y) (nat_lt y (r.y + r.h)) e

and_false : (a b : Bool) → b ≡ false → (a && b) ≡ false
and_false true b e = e
and_false false b e = refl

not_before : (n c : ℕ) (a b : Bool) → c ≤ n → (a && nat_lt n c && b) ≡ false
not_before n c a b h = grind (arith, nat_tests)

before : (n c : ℕ) (a b : Bool) → n < c → (a && nat_lt n c && b) ≡ (a && b)
before n c a b h = grind (arith, nat_tests)

pub painted_row_starts : (r : Rectangle) (row first x y : ℕ) → (x / 64 < first → is_inside r x y ≡ false) → in_row r row first x y ≡ false
painted_row_starts r row first x y none = grind (arith, cases_lt, and_false, not_before)

pub painted_row_ends : (r : Rectangle) (row column x y : ℕ) → (column ≤ x / 64 → is_inside r x y ≡ false) → in_row r row column x y ≡ ((y / 64 == row) && is_inside r x y)
painted_row_ends r row column x y none = grind (arith, cases_lt, before, and_false)

one_more : (n c : ℕ) (a b : Bool) → ((a && nat_lt n c && b) || (a && (n == c) && b)) ≡ (a && nat_lt n (c + 1) && b)
one_more n c a b = grind (arith, nat_tests)

no_more : (n c : ℕ) (a b : Bool) → (a ≡ true → n ≡ c → b ≡ false) → (a && nat_lt n c && b) ≡ (a && nat_lt n (c + 1) && b)
no_more n c a b h = grind (arith, nat_tests)

apart : (a b c d : ℕ) → (a ≡ b → c ≡ d → ⊥) → ((a == b) && (c == d)) ≡ false
apart a b c d h = grind (arith, nat_tests)

both : (a b c d : ℕ) (v : Bool) → a ≡ b → c ≡ d → ((a == b) && (c == d) && v) ≡ v
both a b c d v e f = grind (arith, nat_tests)

inside_as : (r : Rectangle) (column row x y : ℕ) → x / 64 ≡ column → y / 64 ≡ row → is_inside r (column * 64 + x % 64) (row * 64 + y % 64) ≡ is_inside r x y
inside_as r column row x y e f = ap₂ (is_inside r) (let a : column * 64 + x % 64 ≡ x = omega arith in a) (let b : row * 64 + y % 64 ≡ y = omega arith in b)

-- what a tile has of the rectangle
tile_part : (r : Rectangle) (n row column x y : ℕ) (part : ℕ → ℕ → Bool) → column < n → x / 64 < n → ((x y : ℕ) → x < 64 → y < 64 → part x y ≡ is_inside r (column * 64 + x) (row * 64 + y)) → ((y / 64 * n + x / 64 == row * n + column) && part (x % 64) (y % 64)) ≡ ((y / 64 == row) && (x / 64 == column) && is_inside r x y)
tile_part r n row column x y part p q of =
    elim (cases_eq (y / 64 * n + x / 64) (row * n + column)) [
      | inl e ↦
          let (same_row, same_column) = same_from_place (y / 64) (x / 64) row column n q p e in
          ap (λ b. b && part (x % 64) (y % 64)) (eq-eqb (y / 64 * n + x / 64) (row * n + column) e)
          ∙ (of (x % 64) (y % 64) (omega arith) (omega arith)
          ∙ (inside_as r column row x y same_column same_row
          ∙ sym (both (y / 64) row (x / 64) column (is_inside r x y) same_row same_column)))
      | inr ne ↦
          ap (λ b. b && part (x % 64) (y % 64)) (ne_eqb (y / 64 * n + x / 64) (row * n + column) ne)
          ∙ sym (ap (λ b. b && is_inside r x y) (apart (y / 64) row (x / 64) column (λ e f. ne (ap₂ (λ a b. a * n + b) e f))))
    ]

pub painted_row_next : (r : Rectangle) (n row column x y : ℕ) (part : ℕ → ℕ → Bool) → column < n → x / 64 < n → ((x y : ℕ) → x < 64 → y < 64 → part x y ≡ is_inside r (column * 64 + x) (row * 64 + y))
    → (in_row r row column x y || ((y / 64 * n + x / 64 == row * n + column) && part (x % 64) (y % 64))) ≡ in_row r row (column + 1) x y
painted_row_next r n row column x y part p q of =
    ap (λ b. in_row r row column x y || b) (tile_part r n row column x y part p q of) ∙ one_more (x / 64) column (y / 64 == row) (is_inside r x y)

is_row : (a b : ℕ) → (a == b) ≡ true → a ≡ b
is_row a b e = grind (arith, nat_tests)

pub row_past : (r : Rectangle) (row column x y : ℕ) → ((x y : ℕ) → x < 64 → y < 64 → is_inside r (column * 64 + x) (row * 64 + y) ≡ false) → in_row r row column x y ≡ in_row r row (column + 1) x y
row_past r row column x y none =
    no_more (x / 64) column (y / 64 == row) (is_inside r x y)
    (λ e f. sym (inside_as r column row x y f (is_row (y / 64) row e)) ∙ none (x % 64) (y % 64) (omega arith) (omega arith))

-- rows of tiles
abbrev pub in_rows : Rectangle → ℕ → ℕ → ℕ → Bool
in_rows r row x y = nat_lt (y / 64) row && is_inside r x y

pub rows_start : (r : Rectangle) (first x y : ℕ) → (y / 64 < first → is_inside r x y ≡ false) → in_rows r first x y ≡ false
rows_start r first x y none = grind (arith, cases_lt, and_false, not_before)

pub rows_next : (r : Rectangle) (row x y : ℕ) → (in_rows r row x y || ((y / 64 == row) && is_inside r x y)) ≡ in_rows r (row + 1) x y
rows_next r row x y = one_more (y / 64) row true (is_inside r x y)

pub rows_end : (r : Rectangle) (row x y : ℕ) → (row ≤ y / 64 → is_inside r x y ≡ false) → in_rows r row x y ≡ is_inside r x y
rows_end r row x y none = grind (arith, cases_lt, before, and_false)

-- the sides stay
pub same_wide : (cells now : Cells) (test : ℕ → ℕ → Bool) (held : Bool) → now ≡ painted_where cells test held → now.width ≡ cells.width
same_wide cells now test held e = ap (λ (c : Cells). c.width) e

pub row_more : (cells now next : Cells) (r : Rectangle) (held : Bool) (row column across : ℕ) (part : ℕ → ℕ → Bool) → IsLattice cells → across ≡ cells.width / 64 → column < across → now ≡ painted_where cells (in_row r row column) held → ((x y : ℕ) → x < 64 → y < 64 → part x y ≡ is_inside r (column * 64 + x) (row * 64 + y))
    → next ≡ painted_where now (λ x y. (tile_of now x y == row * across + column) && part (x % 64) (y % 64)) held → next ≡ painted_where cells (in_row r row (column + 1)) held
row_more cells now next r held row column across part is wide_is less so_far of put =
    painted_more cells now next (in_row r row column) (λ x y. (tile_of now x y == row * across + column) && part (x % 64) (y % 64)) (in_row r row (column + 1)) held so_far put
    (λ x y p q.
    let n : now.width / 64 ≡ cells.width / 64 = ap (λ w. w / 64) (same_wide cells now (in_row r row column) held so_far) in
    let within : x / 64 < cells.width / 64 = tile_below cells.width x (wide (extent cells) is.sized) p in
    ap₂ (λ m a. in_row r row column x y || ((y / 64 * m + x / 64 == row * a + column) && part (x % 64) (y % 64))) n wide_is
    ∙ painted_row_next r (cells.width / 64) row column x y part (rw (← wide_is) less) within of)

with_true : (b : Bool) → b ≡ (b && true)
with_true true = refl
with_true false = refl

-- the same where the rectangle has the whole tile
pub row_more_whole : (cells now next : Cells) (r : Rectangle) (held : Bool) (row column across : ℕ) → IsLattice cells → across ≡ cells.width / 64 → column < across → now ≡ painted_where cells (in_row r row column) held → ((x y : ℕ) → x < 64 → y < 64 → is_inside r (column * 64 + x) (row * 64 + y) ≡ true)
    → next ≡ painted_where now (λ x y. tile_of now x y == row * across + column) held → next ≡ painted_where cells (in_row r row (column + 1)) held
row_more_whole cells now next r held row column across is wide_is less so_far covered put =
    row_more cells now next r held row column across (λ _ _. true) is wide_is less so_far (λ x y p q. sym (covered x y p q))
    (put ∙ same_painted now (λ x y. tile_of now x y == row * across + column) (λ x y. (tile_of now x y == row * across + column) && true) held (λ x y p q. with_true (tile_of now x y == row * across + column)))

pub row_same : (cells now : Cells) (r : Rectangle) (held : Bool) (row column : ℕ) → now ≡ painted_where cells (in_row r row column) held → ((x y : ℕ) → x < 64 → y < 64 → is_inside r (column * 64 + x) (row * 64 + y) ≡ false) → now ≡ painted_where cells (in_row r row (column + 1)) held
row_same cells now r held row column so_far none = so_far ∙ same_painted cells (in_row r row column) (in_row r row (column + 1)) held (λ x y p q. row_past r row column x y none)
