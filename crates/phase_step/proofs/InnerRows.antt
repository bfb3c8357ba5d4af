-- The rows of cells 1 to 62 of a row of tiles, turned tile by tile.
use Rattle.std.proofs.Common.{◌≡◌, ℕ, ◌+◌, ◌*◌, ◌/◌, ◌%◌, ◌<◌, ◌≤◌, ◌==◌, Bool, true, false, if◌then◌else◌, refl, sym, ap, ◌∙◌, subst, arith, inl, inr}
use Rattle.std.proofs.lemmas.Bool.{cases_eq, eq-eqb, ne_eqb}
use Rattle.bit_tile.specs.Tile as tile
use Rattle.bit_tile.specs.declared.Tile.{Tile}
use Rattle.gas_terms.specs.Cells.{Cells, has, extent, is_size}
use Rattle.gas_plane.proofs.Places.{IsWholeTiles, wide, high, cell_below}
use Rattle.block_rule.specs.InPlace.{TurnsInto, IsCarried}
use Rattle.block_rule.specs.TileBlocks.{AreGivenBlocks}
use Rattle.block_rule.specs.declared.in_place.Carry.{Carry}
use Rattle.phase_step.specs.OddPhase.{ShowsWalls, TurnsInner, IsFirstPut, IsRowThere, HasInner, after_tiles, AreInnersTurned, IsInnerRowTurned}
use Rattle.phase_step.specs.declared.odd_phase.RowPlace.{RowPlace}
use Rattle.phase_step.specs.declared.odd_phase.InnerTurner.{InnerTurner}
use Rattle.gas_plane.specs.Turning.{IsColumnTurned, AreTilesTurned}
use Rattle.gas_plane.specs.Turning.AreTilesTurned.{no_tile, one_more}
use Rattle.gas_terms.specs.Gas.{streamed}
use Rattle.phase_step.specs.Solid.{all_of}
use Rattle.phase_step.specs.SolidBlocks.{is_walled_in}
use Rattle.phase_step.proofs.RowTiles.{IsEdge, IsInnerShown, inner_turned}
use Rattle.phase_step.proofs.RowWindows.{carried_alike, next_cells, window, walls_there, rule, across, some_columns, turned_there, seen_there, column_in, around_column, around_row, around_before, after_inside, after_last, inside_in, around_after, edge, given_there}

if_false : (b : Bool) (c : Bool) → b ≡ false → (if b then false else c) ≡ c
if_false b c e = rw e refl

module _ (place : RowPlace) (column : ℕ) (solid old lattice : Cells) (is : IsRowThere place solid old lattice) (less : column < lattice.width / 64) (sized : is_size (extent old) ≡ true) (low : place.row < old.height / 64) (ready : HasInner place lattice.width old lattice) where
  abbrev next : Cells
  next = next_cells place column solid old lattice is less

  abbrev made_of : ℕ → ℕ → Bool
  made_of = rule place column solid old lattice is less

  abbrev shown : ℕ → ℕ → Bool
  shown = window place column solid old lattice is less

  abbrev beside : ℕ → Bool
  beside = edge place column solid old lattice is less

  down : IsWholeTiles old.height
  down = high (extent old) sized

  row_in : (y : ℕ) → y < 64 → place.row * 64 + y < old.height
  row_in y h = cell_below old.height place.row y down low h

  row_number : (y : ℕ) → y < 64 → (place.row * 64 + y) / 64 ≡ place.row
  row_number y h = omega (arith, h)

  seen_own : (x y : ℕ) → x < 64 → 1 ≤ y → y < 63 → shown (x + 1) (y + 1) ≡ has lattice (column * 64 + x) (place.there * 64 + y)
  seen_own x y h k l = seen_there place column solid old lattice is less x y _ _ (around_column place column solid old lattice is less x h) (around_row place column solid old lattice is less y (omega (arith, l)))

  seen_edge : (y : ℕ) → 1 ≤ y → y < 63 → shown 65 (y + 1) ≡ beside y
  seen_edge y k l = seen_there place column solid old lattice is less 64 y _ _ (around_after place column solid old lattice is less) (around_row place column solid old lattice is less y (omega (arith, l)))

  leaves_at : (y : ℕ) → 1 ≤ y → y < 63 → made_of 64 y ≡ has next (after_tiles next (column + 1)) (place.there * 64 + y)
  leaves_at y k l = turned_there place column solid old lattice is less 64 y _ _ (omega arith) (omega (arith, l)) (around_after place column solid old lattice is less) (around_row place column solid old lattice is less y (omega (arith, l)))

  -- What becomes of its cells. The row's first column has none yet.
  abbrev after_of : ℕ → ℕ → Bool
  after_of x y = if column == 0 then (if x == 0 then false else made_of x y) else made_of x y

  after_is : (x y : ℕ) → (column ≡ 0 → x ≡ 0 → ⊥) → after_of x y ≡ made_of x y
  after_is x y ne = elim (cases_eq column 0) [ inl e ↦ rw (eq-eqb column 0 e, ne_eqb x 0 (ne e)) refl | inr n ↦ rw (ne_eqb column 0 n) refl ]

  is_after : TurnsInto shown (walls_there place column solid old lattice is less) after_of
  is_after x y some = after_is x y (λ _ e. absurd (omega (arith, e, some)))

  module _ (now : Cells) (carry : Carry) (so_far : AreInnersTurned place column next old now carry) where
    same_width : now.width ≡ lattice.width
    same_width = so_far.sides.wide ∙ is.wide

    sized_now : is_size (extent now) ≡ true
    sized_now = subst (λ h. is_size (record { width = now.width; height = h }) ≡ true) (sym so_far.sides.high) (subst (λ w. is_size (record { width = w; height = old.height }) ≡ true) (sym so_far.sides.wide) sized)

    low_now : place.row < now.height / 64
    low_now = subst (λ h. place.row < h / 64) (sym so_far.sides.high) low

    less_now : column < now.width / 64
    less_now = subst (λ w. column < w / 64) (sym same_width) less

    -- tiles that have not turned yet are the lattice's
    still : (x y : ℕ) → column * 64 ≤ x → x < lattice.width → 1 ≤ y → y < 63 → has now x (place.row * 64 + y) ≡ has lattice x (place.there * 64 + y)
    still x y from h k l = so_far.rest x (place.row * 64 + y) (subst (λ w. x < w) (sym is.wide) h) (row_in y (omega (arith, l))) (λ below. absurd (omega (arith, below, from))) ∙ ready x y h k l

    own_inner : (x y : ℕ) → x < 64 → 1 ≤ y → y < 63 → shown (x + 1) (y + 1) ≡ has now (column * 64 + x) (place.row * 64 + y)
    own_inner x y h k l = seen_own x y h k l ∙ sym (still (column * 64 + x) y (omega arith) (column_in place column solid old lattice is less x h) k l)

    inner_shown : IsInnerShown place.row column beside now shown
    inner_shown = record { tile = own_inner; right = seen_edge }

    is_edge : (first : Tile) → ((y : ℕ) → 1 ≤ y → y < 63 → tile.has first 0 y ≡ has old 0 (place.row * 64 + y)) → IsEdge place.row column first now beside
    is_edge first are =
        record {
          next = λ h y k l.
              let inside : column + 1 < lattice.width / 64 = subst (λ w. column + 1 < w / 64) same_width h in
              still ((column + 1) * 64) y (omega arith) (inside_in place column solid old lattice is less inside) k l
              ∙ ap (λ c. has lattice c (place.there * 64 + y)) (sym (after_inside place column solid old lattice is less inside));
          last = λ h y k l.
              let last : column + 1 ≡ lattice.width / 64 = h ∙ ap (λ w. w / 64) same_width in
              are y k l ∙ (ready 0 y (some_columns place column solid old lattice is less) k l ∙ ap (λ c. has lattice c (place.there * 64 + y)) (sym (after_last place column solid old lattice is less last)));
        }

    -- what comes from the tile to the left
    carried_in : IsCarried carry (after_of 0)
    carried_in =
        carried_alike carry _ (after_of 0)
        (λ y k l. ap (λ b. if column == 0 then false else b) (sym (turned_there place column solid old lattice is less 0 y _ _ (omega arith) (omega (arith, l)) (around_before place column solid old lattice is less) (around_row place column solid old lattice is less y (omega (arith, l)))))) so_far.carried

    -- one more tile has turned
    pub inner_next : (turner : InnerTurner) (first : Tile) → ((y : ℕ) → 1 ≤ y → y < 63 → tile.has first 0 y ≡ has old 0 (place.row * 64 + y)) → (after : Carry) (new : Cells) → IsColumnTurned (TurnsInner turner column carry) first place.row column after now new
        → ShowsWalls turner.known turner.there column (walls_there place column solid old lattice is less)
        → AreInnersTurned place (column + 1) next old new after
    inner_next turner first first_are after new turned given =
        let inner = inner_turned turner now new place.row column first carry after beside sized_now low_now less_now (is_edge first first_are) turned in
        let t = (across place column solid old lattice is less).tiles in
        let other : (x y : ℕ) → x < old.width → y < old.height → (x / 64 ≡ column → y / 64 ≡ place.row → 1 ≤ y % 64 → y % 64 < 63 → ⊥) → has new x y ≡ has now x y =
        λ x y h k. inner.others x y (subst (λ w. x < w) (sym so_far.sides.wide) h) (subst (λ n. y < n) (sym so_far.sides.high) k) in
        record {
          sides = record { wide = inner.sides.wide ∙ so_far.sides.wide; high = inner.sides.high ∙ so_far.sides.high };
          made = λ x y some h k l.
              elim (cases_eq (x / 64) column) [
                | inl e ↦
                    let at : column * 64 + x % 64 ≡ x = omega (arith, e) in
                    subst (λ u. has new u (place.row * 64 + y) ≡ has next u (place.there * 64 + y)) at
                    (inner.cells shown (walls_there place column solid old lattice is less) after_of is_after inner_shown given carried_in (x % 64) y (omega arith) k l
                    ∙ (after_is (x % 64) y (λ z w. absurd (omega (arith, at, some, z, w))) ∙ turned_there place column solid old lattice is less (x % 64) y _ _ (omega arith) (omega (arith, l)) (around_column place column solid old lattice is less (x % 64) (omega arith)) (around_row place column solid old lattice is less y (omega (arith, l)))))
                | inr ne ↦
                    other x (place.row * 64 + y) (let w = is.wide in omega (arith, h, less, t, w)) (row_in y (omega (arith, l))) (λ e. absurd (ne e))
                    ∙ so_far.made x y some (omega (arith, h, ne)) k l
              ];
          rest = λ x y h k not_in.
              other x y h k (λ e f g l. not_in (omega (arith, e)) (f, (g, l)))
              ∙ so_far.rest x y h k (λ below. not_in (omega (arith, below)));
          carried = carried_alike after (made_of 64) _ (λ y k l. leaves_at y k l ∙ sym (if_false (column + 1 == 0) _ (ne_eqb (column + 1) 0 (λ e. omega (arith, e))))) (inner.leaving shown (walls_there place column solid old lattice is less) inner_shown given);
        }

-- before any tile has turned
pub row_begun : (place : RowPlace) (next old : Cells) (carry : Carry) → IsCarried carry (λ _. false) → AreInnersTurned place 0 next old old carry
row_begun place next old carry none =
    record {
      sides = record { wide = refl; high = refl };
      made = λ x y some h. absurd (omega (arith, h));
      rest = λ x y h k other. refl;
      carried = none;
    }

-- after so many tiles
module _ (place : RowPlace) (solid old lattice : Cells) (is : IsRowThere place solid old lattice) (sized : is_size (extent old) ≡ true) (low : place.row < old.height / 64) (ready : HasInner place lattice.width old lattice) (first : Tile) (first_are : (y : ℕ) → 1 ≤ y → y < 63 → tile.has first 0 y ≡ has old 0 (place.row * 64 + y)) (turner : InnerTurner) (walls : all_of turner.known.solids.now ≡ solid) (at : turner.there ≡ place.there * (lattice.width / 64)) (begun : Carry) (none : IsCarried begun (λ _. false)) where
  shows : (column : ℕ) (less : column < lattice.width / 64) → ShowsWalls turner.known turner.there column (walls_there place column solid old lattice is less)
  shows column less = λ given is_given. given_there place column solid old lattice is less given (subst (λ s. AreGivenBlocks given (is_walled_in s (place.there * (lattice.width / 64) + column))) walls (subst (λ k. AreGivenBlocks given (is_walled_in (all_of turner.known.solids.now) (k + column))) at is_given))

  pub inners_turned : (column : ℕ) (after : Carry) (now : Cells) → AreTilesTurned (TurnsInner turner) first place.row begun old column after now → column ≤ lattice.width / 64 → AreInnersTurned place column (streamed 1 lattice solid) old now after
  inners_turned _ _ _ no_tile h = row_begun place (streamed 1 lattice solid) old begun none
  inners_turned _ after now (one_more {column} {before} {mid} so_far turned) h =
      let less : column < lattice.width / 64 = omega (arith, h) in
      inner_next place column solid old lattice is less sized low ready mid before (inners_turned column before mid so_far (omega (arith, h))) turner first first_are after now turned (shows column less)

-- when all tiles have turned, and what the last one carries on is in the first column
module _ (place : RowPlace) (column : ℕ) (next old now new : Cells) (carry : Carry) (of_next : next.width ≡ old.width) (sized : is_size (extent old) ≡ true) (low : place.row < old.height / 64) (all : column ≡ next.width / 64) (so_far : AreInnersTurned place column next old now carry) (put : IsFirstPut place.row carry now new) where
  whole : IsWholeTiles next.width
  whole = subst IsWholeTiles (sym of_next) (wide (extent old) sized)

  end : column * 64 ≡ next.width
  end = ap (λ n. n * 64) all ∙ whole.tiles

  is_first : IsCarried carry (λ y. has next 0 (place.there * 64 + y))
  is_first =
      let some = whole.some in
      let e : (column == 0) ≡ false = ne_eqb column 0 (λ z. omega (arith, all, z, some)) in
      let f : after_tiles next column ≡ 0 = rw (eq-eqb column (next.width / 64) all) refl in
      carried_alike carry _ (λ y. has next 0 (place.there * 64 + y)) (λ y k l. if_false (column == 0) _ e ∙ ap (λ c. has next c (place.there * 64 + y)) f) so_far.carried

  pub inner_row : IsInnerRowTurned place next old new
  inner_row =
      record {
        made = λ x y h k l.
            elim (cases_eq x 0) [
              | inl e ↦ subst (λ u. has new u (place.row * 64 + y) ≡ has next u (place.there * 64 + y)) (sym e) (put.column (λ y. has next 0 (place.there * 64 + y)) is_first y k l)
              | inr ne ↦
                  put.others x (place.row * 64 + y) (subst (λ n. x < n) (sym (so_far.sides.wide ∙ sym of_next)) h) (subst (λ n. place.row * 64 + y < n) (sym so_far.sides.high) (cell_below old.height place.row y (high (extent old) sized) low (omega (arith, l)))) (λ e. absurd (ne e))
                  ∙ so_far.made x y (omega (arith, ne)) (subst (λ n. x < n) (sym end) h) k l
            ];
        rest = λ x y h k other.
            put.others x y (subst (λ n. x < n) (sym so_far.sides.wide) h) (subst (λ n. y < n) (sym so_far.sides.high) k) (λ e f g l. other (f, (g, l)))
            ∙ so_far.rest x y h k (λ _. other);
      }
