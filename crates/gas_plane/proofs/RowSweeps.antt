-- A row's words are replaced one after another.
use Rattle.std.proofs.Common.{◌≡◌, ℕ, ◌+◌, ◌-◌, ◌*◌, ◌/◌, ◌%◌, ◌<◌, ◌==◌, ◌&&◌, ◌≢◌, Bool, true, false, nat_lt, if◌then◌else◌, List, get_or, refl, sym, ◌∙◌, ap, ap₂, arith, inl, inr, get_or-take, get_or-drop, take, drop}
use Rattle.std.proofs.lemmas.Nat.{same_from_place, mul-add-lt, div-mul-add, mod-mul-add}
use Rattle.std.proofs.lemmas.Bool.{cases_eq, eq-eqb, ne_eqb}
use Rattle.std.proofs.lemmas.Bool.Decides.{nat_tests, Decides-eqb}
use Rattle.bit_tile.specs.Tile as tile
use Rattle.bit_tile.specs.Bit.{bit}
use Rattle.bit_tile.specs.declared.Tile.{Tile}
use Rattle.gas_terms.specs.Cells.{Cells, has, cells_where, extent, IsFull, tile_count}
use Rattle.gas_terms.specs.Rows.{row_has}
use Rattle.gas_terms.proofs.Cells.{has-cells_where, full-cells_where, same_cells_where, same_cells}
use Rattle.gas_plane.specs.Planes.{IsLattice, IsTileFrom, tile_of, with_tile, with_row_word}
use Rattle.gas_plane.proofs.Places.{wide, high, tile_below}
use Rattle.gas_plane.proofs.Tilings.{choose_true, choose_false}

-- one word of one tile is replaced
choose_same : (test a b v : Bool) → (test ≡ true → v ≡ a) → (test ≡ false → v ≡ b) → v ≡ (if test then a else b)
choose_same true a b v h k = h refl
choose_same false a b v h k = k refl

both_true : (a b c d : ℕ) → ((a == b) && (c == d)) ≡ true → (a ≡ b) × (c ≡ d)
both_true a b c d e = grind (arith, nat_tests)

not_both : (a b c d : ℕ) → ((a == b) && (c == d)) ≡ false → a ≡ b → c ≢ d
not_both a b c d e same = grind (arith, nat_tests)

same_place : (a column row x y : ℕ) → column < a → x / 64 < a → y / 64 * a + x / 64 ≡ row / 64 * a + column → (y / 64 ≡ row / 64) × (x / 64 ≡ column)
same_place a column row x y p q e = same_from_place (y / 64) (x / 64) (row / 64) column a q p e

clash : (b : Bool) → b ≡ true → b ≡ false → ⊥
clash b e f = cc

pub word_set : (cells : Cells) (column row word : ℕ) (t made : Tile) → IsLattice cells → column < cells.width / 64 → tile.HasCells made (λ i j. if j == row % 64 then bit word i else tile.has t i j) → IsTileFrom t cells (column * 64) (row / 64 * 64) → with_tile cells (row / 64 * (cells.width / 64) + column) made ≡ with_row_word cells column row word
word_set cells column row word t made is p makes from =
    let a : ℕ = cells.width / 64 in
    let k : ℕ = row / 64 * a + column in
    same_cells_where cells.width cells.height (λ x y. if tile_of cells x y == k then tile.has made (x % 64) (y % 64) else has cells x y) (λ x y. if (x / 64 == column) && (y == row) then bit word (x % 64) else has cells x y)
    (λ x y xw yh.
    let q : x / 64 < a = tile_below cells.width x (wide (extent cells) is.sized) xw in
    let made_cell : tile.has made (x % 64) (y % 64) ≡ (if y % 64 == row % 64 then bit word (x % 64) else tile.has t (x % 64) (y % 64)) = makes (x % 64) (y % 64) (omega arith) (omega arith) in
    sym
    (choose_same (tile_of cells x y == k) (tile.has made (x % 64) (y % 64)) (has cells x y) (if (x / 64 == column) && (y == row) then bit word (x % 64) else has cells x y)
    (λ in_tile.
    let place = same_place a column row x y p q ((Decides-eqb (tile_of cells x y) k).0 in_tile) in
    sym
    (choose_same ((x / 64 == column) && (y == row)) (bit word (x % 64)) (has cells x y) (tile.has made (x % 64) (y % 64))
    (λ both.
    let same_row : y % 64 ≡ row % 64 = ap (λ n. n % 64) (both_true (x / 64) column y row both).1 in
    made_cell ∙ sym (choose_true (y % 64 == row % 64) (bit word (x % 64)) (tile.has t (x % 64) (y % 64)) (bit word (x % 64)) (eq-eqb (y % 64) (row % 64) same_row) refl))
    (λ neither.
    let other_row : y ≢ row = not_both (x / 64) column y row neither place.1 in
    let other : y % 64 ≢ row % 64 = λ h. other_row (omega arith) in
    let across : column * 64 + x % 64 ≡ x = omega arith in
    let down : row / 64 * 64 + y % 64 ≡ y = omega arith in
    made_cell ∙ (sym (choose_false (y % 64 == row % 64) (bit word (x % 64)) (tile.has t (x % 64) (y % 64)) _ (ne_eqb (y % 64) (row % 64) other) refl) ∙ (from.cell (x % 64) (y % 64) (omega arith) (omega arith) ∙ ap₂ (has cells) across down)))))
    (λ elsewhere.
    sym
    (choose_same ((x / 64 == column) && (y == row)) (bit word (x % 64)) (has cells x y) (has cells x y)
    (λ both.
    let at = both_true (x / 64) column y row both in
    let here : tile_of cells x y ≡ k = ap₂ (λ r c. r / 64 * a + c) at.1 at.0 in
    absurd (clash (tile_of cells x y == k) (eq-eqb (tile_of cells x y) k here) elsewhere))
    (λ neither. refl)))))

-- a word is put where it stands
pub word_same : (cells : Cells) (column row word : ℕ) → IsLattice cells → ((x : ℕ) → x < 64 → bit word x ≡ has cells (column * 64 + x) row) → cells ≡ with_row_word cells column row word
word_same cells column row word is bits = grind (arith, same_cells, full-cells_where, choose_same, both_true, has-cells_where)

-- the row's words before a column are replaced
abbrev pub rowed : Cells → ℕ → List ℕ → ℕ → Cells
rowed cells row bytes column = cells_where cells.width cells.height (λ x y. if nat_lt (x / 64) column && (y == row) then row_has bytes x else has cells x y)

none_before : (n : ℕ) (b : Bool) → (nat_lt n 0 && b) ≡ false
none_before n b = grind (arith, nat_tests)

pub row_starts : (cells : Cells) (row : ℕ) (bytes : List ℕ) → IsFull cells → cells ≡ rowed cells row bytes 0
row_starts cells row bytes full = grind (arith, same_cells, full-cells_where, nat_lt, choose_false, none_before, has-cells_where)

-- eight bytes of the row
pub chunk_has : (bytes chunk : List ℕ) (column x : ℕ) → x < 64 → ((k : ℕ) → k < 8 → get_or chunk k 0 ≡ get_or bytes (column * 8 + k) 0) → row_has chunk x ≡ row_has bytes (column * 64 + x)
chunk_has bytes chunk column x h same = grind (arith, get_or)

at_column : (n c : ℕ) (b word new old : Bool) → n ≡ c → word ≡ new → (if (n == c) && b then word else (if nat_lt n c && b then new else old)) ≡ (if nat_lt n (c + 1) && b then new else old)
at_column n c b word new old e f = grind (arith, nat_tests)

off_column : (n c : ℕ) (b word new old : Bool) → n ≢ c → (if (n == c) && b then word else (if nat_lt n c && b then new else old)) ≡ (if nat_lt n (c + 1) && b then new else old)
off_column n c b word new old e = grind (arith, nat_tests)

pub row_next : (cells now next : Cells) (row : ℕ) (bytes chunk : List ℕ) (column word : ℕ) → IsLattice cells → now ≡ rowed cells row bytes column → next ≡ with_row_word now column row word
    → ((x : ℕ) → x < 64 → bit word x ≡ row_has chunk x) → ((k : ℕ) → k < 8 → get_or chunk k 0 ≡ get_or bytes (column * 8 + k) 0) → next ≡ rowed cells row bytes (column + 1)
row_next cells now next row bytes chunk column word is so_far put bits same =
    put
    ∙ (ap (λ (now : Cells). with_row_word now column row word) so_far
    ∙ same_cells_where cells.width cells.height (λ x y. if (x / 64 == column) && (y == row) then bit word (x % 64) else has (rowed cells row bytes column) x y) (λ x y. if nat_lt (x / 64) (column + 1) && (y == row) then row_has bytes x else has cells x y)
    (λ x y p q.
    let old : has (rowed cells row bytes column) x y ≡ (if nat_lt (x / 64) column && (y == row) then row_has bytes x else has cells x y) = has-cells_where cells.width cells.height (λ x y. if nat_lt (x / 64) column && (y == row) then row_has bytes x else has cells x y) x y p q in
    ap (λ b. if (x / 64 == column) && (y == row) then bit word (x % 64) else b) old
    ∙ elim (cases_eq (x / 64) column) [
      | inl here ↦ at_column (x / 64) column (y == row) _ _ _ here (bits (x % 64) (omega arith) ∙ (chunk_has bytes chunk column (x % 64) (omega arith) same ∙ ap (row_has bytes) (omega arith)))
      | inr other ↦ off_column (x / 64) column (y == row) _ _ _ other
    ]))

pub chunk_at : (bytes : List ℕ) (column k : ℕ) → k < 8 → get_or (take (column * 8 + 8 - column * 8) (drop (column * 8) bytes)) k 0 ≡ get_or bytes (column * 8 + k) 0
chunk_at bytes column k h = grind (arith, get_or-take, get_or-drop)

-- the tile that a word is in
pub word_tile : (cells : Cells) (column row across : ℕ) → IsLattice cells → across ≡ cells.width / 64 → column < cells.width / 64 → row < cells.height → row / 64 * across + column < tile_count cells
word_tile cells column row across is e p q =
    rw e (mul-add-lt (row / 64) (cells.width / 64) column (cells.height / 64) (tile_below cells.height row (high (extent cells) is.sized) q) p)

pub word_from : (cells : Cells) (column row across : ℕ) (t : Tile) → across ≡ cells.width / 64 → column < cells.width / 64
    → IsTileFrom t cells ((row / 64 * across + column) % (cells.width / 64) * 64) ((row / 64 * across + column) / (cells.width / 64) * 64) → IsTileFrom t cells (column * 64) (row / 64 * 64)
word_from cells column row across t e p from = grind (arith, mod-mul-add, div-mul-add)
