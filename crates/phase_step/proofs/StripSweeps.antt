-- Two phases of a strip in one sweep, row of tiles by row.
use Rattle.std.proofs.Common.{◌≡◌, ℕ, ◌+◌, ◌*◌, ◌/◌, ◌%◌, ◌<◌, ◌≤◌, true, refl, sym, ap, ap₂, ◌∙◌, subst, arith, inl, inr}
use Rattle.std.proofs.Math.Nat.{mod-eq_of_lt}
use Rattle.std.proofs.lemmas.Bool.{cases_eq}
use Rattle.gas_terms.specs.Cells.{Cells, HasSidesOf, has, extent, is_size, tile_count}
use Rattle.gas_terms.specs.Gas.{streamed}
use Rattle.gas_plane.proofs.Places.{high}
use Rattle.phase_step.specs.Parts.{row_in, IsPartOf}
use Rattle.phase_step.specs.OddPhase.{HasInner, HasSeam, HasRow, IsInnerOf, IsSeamOf, IsBegunTurned, IsEvenRowTurned, IsInnerRowTurned, IsSeamRowTurned, AreTurnedOn}
use Rattle.phase_step.specs.declared.odd_phase.RowPlace.{RowPlace}
use Rattle.phase_step.specs.declared.parts.Part.{Part}
use Rattle.phase_step.proofs.OddParts.{place_in, inner_there, below_in}
use Rattle.phase_step.proofs.MadeCells.{has_own_rows, full_streamed}

module _ (part : Part) (solid old : Cells) (row : ℕ) (sized : is_size (extent old) ≡ true) (low : row + part.margin < old.height / 64) (strip : part.margin ≡ 1) (lattice : Cells) (is : IsPartOf part old lattice 63) (of_solid : HasSidesOf solid lattice) where
  abbrev mid : Cells
  mid = streamed 1 lattice solid

  abbrev next : Cells
  next = streamed 0 mid solid

  abbrev place : RowPlace
  place = place_in part old row

  next_row : place.below ≡ row + 1
  next_row = mod-eq_of_lt (let l : row + 1 < old.height / 64 = omega (arith, low, strip) in l)

  in_row : (y : ℕ) → y < 64 → row_in part (row * 64 + y) ≡ place.there * 64 + y
  in_row y h = inner_there part solid old row sized low lattice is of_solid y h

  -- the rows of cells below its first one have not turned
  module _ (now : Cells) (kept : (x y : ℕ) → x < old.width → y < old.height → row * 64 < y → has now x y ≡ has old x y) where
    as_lattice : (x y : ℕ) → x < lattice.width → row * 64 < y → 63 ≤ y → y ≤ row * 64 + 64 → has now x y ≡ has lattice x (row_in part y)
    as_lattice x y h below from to =
        let t = (high (extent old) sized).tiles in
        let top : y + 63 < old.height = omega (arith, to, low, strip, t) in
        kept x y (subst (λ w. x < w) (sym is.placed.wide) h) (omega (arith, top)) below ∙ is.rows.row x y h (omega (arith, from, strip)) (omega (arith, top, strip))

    pub inner_on : 1 ≤ row → HasInner place lattice.width now lattice
    inner_on own x y h k l =
        as_lattice x (row * 64 + y) h (omega (arith, k)) (omega (arith, own)) (omega (arith, l)) ∙ ap (has lattice x) (in_row y (omega (arith, l)))

    pub seam_on : HasSeam place lattice.width now lattice
    seam_on =
        record {
          bottom = λ x h. as_lattice x (row * 64 + 63) h (omega arith) (omega arith) (omega arith) ∙ ap (has lattice x) (in_row 63 (omega arith));
          top = λ x h. as_lattice x (place.below * 64) h (omega (arith, next_row)) (omega (arith, next_row)) (omega (arith, next_row)) ∙ ap (has lattice x) (below_in part solid old row sized low lattice is of_solid);
        }

  -- the seam above the first own row has turned
  pub first_on : (new : Cells) → row ≡ 0 → HasSidesOf new old → IsSeamRowTurned place mid old new → AreTurnedOn 1 part mid next old new
  first_on new none sides seam =
      let e : place.below * 64 ≡ 1 * 64 = omega (arith, next_row, none) in
      record {
        sides = sides;
        twice = λ x y h from to. absurd (omega (arith, from, to, strip));
        once = λ x h.
            subst (λ y. has new x y ≡ has mid x (row_in part y)) e
            (seam.made.top x (subst (λ w. x < w) is.placed.wide h) ∙ ap (has mid x) (sym (below_in part solid old row sized low lattice is of_solid)));
        rest = λ x y h k below. seam.rest x y h k (λ at. elim at [ inl a ↦ absurd (omega (arith, a, none, below)) | inr a ↦ absurd (omega (arith, a, e, below)) ]);
      }

  module _ (now begun : Cells) (so_far : AreTurnedOn row part mid next old now) (sides_begun : HasSidesOf begun now) (made : IsBegunTurned place mid now begun) where
    old_now : HasSidesOf begun old
    old_now = record { wide = sides_begun.wide ∙ so_far.sides.wide; high = sides_begun.high ∙ so_far.sides.high }

    -- rows of cells in which no block of these has a cell
    apart : (x y : ℕ) → x < old.width → y < old.height → (IsInnerOf place y → ⊥) → (IsSeamOf place y → ⊥) → has begun x y ≡ has now x y
    apart x y h k = made.rest x y (subst (λ w. x < w) (sym so_far.sides.wide) h) (subst (λ n. y < n) (sym so_far.sides.high) k)

    -- its first row of cells, which has turned with the row of tiles above
    top_row : (x : ℕ) → x < lattice.width → has begun x (row * 64) ≡ has mid x (place.there * 64 + 0)
    top_row x h =
        let r : x < old.width = subst (λ w. x < w) (sym is.placed.wide) h in
        let t = (high (extent old) sized).tiles in
        let e : row * 64 + 0 ≡ row * 64 = omega arith in
        apart x (row * 64) r (omega (arith, low, strip, t)) (λ at. let g = at.1.0 in absurd (omega (arith, g))) (λ at. elim at [ inl a ↦ absurd (omega (arith, a)) | inr a ↦ absurd (omega (arith, a, next_row)) ])
        ∙ (so_far.once x r ∙ ap (has mid x) (ap (row_in part) (sym e) ∙ in_row 0 (omega arith)))

    pub row_ready : HasRow place mid.width begun mid
    row_ready x y h k =
        elim (cases_eq y 0) [
          | inl e ↦
              let f : row * 64 + 0 ≡ row * 64 = omega arith in
              subst (λ y. has begun x (row * 64 + y) ≡ has mid x (place.there * 64 + y)) (sym e) (ap (has begun x) f ∙ top_row x h)
          | inr ne ↦ elim (cases_eq y 63) [
            | inl e ↦ subst (λ y. has begun x (row * 64 + y) ≡ has mid x (place.there * 64 + y)) (sym e) (made.seam.bottom x h)
            | inr not_last ↦ made.inner x y h (omega (arith, ne)) (omega (arith, not_last, k))
          ]
        ]

    pub row_on : (new : Cells) → HasSidesOf new begun → IsEvenRowTurned place next begun new → AreTurnedOn (row + 1) part mid next old new
    row_on new sides_new even =
        let t = (high (extent old) sized).tiles in
        let others : (x y : ℕ) → x < old.width → y < old.height → (y / 64 ≡ row → ⊥) → has new x y ≡ has begun x y = λ x y h k. even.rest x y (subst (λ w. x < w) (sym old_now.wide) h) (subst (λ n. y < n) (sym old_now.high) k) in
        record {
          sides = record { wide = sides_new.wide ∙ old_now.wide; high = sides_new.high ∙ old_now.high };
          twice = λ x y h from to.
              let k : y < old.height = omega (arith, to, low, strip, t) in
              elim (cases_eq (y / 64) row) [
                | inl e ↦
                    let at : row * 64 + y % 64 ≡ y = omega (arith, e) in
                    subst (λ n. has new x n ≡ has next x (row_in part n)) at
                    (even.made x (y % 64) (subst (λ w. x < w) is.placed.wide h) (omega arith) ∙ ap (has next x) (sym (in_row (y % 64) (omega arith))))
                | inr ne ↦
                    others x y h k ne
                    ∙ (apart x y h k (λ at. ne at.0) (λ at. elim at [ inl a ↦ ne (omega (arith, a)) | inr a ↦ absurd (omega (arith, a, next_row, to)) ])
                    ∙ so_far.twice x y h from (omega (arith, ne, to)))
              ];
          once = λ x h.
              let e : place.below * 64 ≡ (row + 1) * 64 = omega (arith, next_row) in
              others x ((row + 1) * 64) h (omega (arith, low, strip, t)) (λ a. absurd (omega (arith, a)))
              ∙ subst (λ y. has begun x y ≡ has mid x (row_in part y)) e
              (made.seam.top x (subst (λ w. x < w) is.placed.wide h) ∙ ap (has mid x) (sym (below_in part solid old row sized low lattice is of_solid)));
          rest = λ x y h k below.
              others x y h k (λ a. absurd (omega (arith, a, below)))
              ∙ (apart x y h k (λ at. let a = at.0 in absurd (omega (arith, a, below))) (λ at. elim at [ inl a ↦ absurd (omega (arith, a, below)) | inr a ↦ absurd (omega (arith, a, next_row, below)) ])
              ∙ so_far.rest x y h k (omega (arith, below)));
        }

-- The blocks that begin in a row of tiles: those within it have turned first, and then those across the seam below it.
pub seam_kept : (place : RowPlace) (solid old mid lattice : Cells) → is_size (extent old) ≡ true → old.width ≡ lattice.width → place.row < old.height / 64 → place.below < old.height / 64 → IsInnerRowTurned place (streamed 1 lattice solid) old mid → HasSeam place lattice.width old lattice → HasSeam place lattice.width mid lattice
seam_kept place solid old mid lattice sized wide row below inner seam =
    let t = (high (extent old) sized).tiles in
    record {
      bottom = λ x h. inner.rest x (place.row * 64 + 63) (subst (λ w. x < w) (sym wide) h) (omega (arith, row, t)) (λ at. let g = at.1.1 in absurd (omega (arith, g))) ∙ seam.bottom x h;
      top = λ x h. inner.rest x (place.below * 64) (subst (λ w. x < w) (sym wide) h) (omega (arith, below, t)) (λ at. let g = at.1.0 in absurd (omega (arith, g))) ∙ seam.top x h;
    }

pub begun_turned : (place : RowPlace) (solid old mid new lattice : Cells) → is_size (extent old) ≡ true → old.width ≡ lattice.width → place.row < old.height / 64 → HasSidesOf mid old → IsInnerRowTurned place (streamed 1 lattice solid) old mid → IsSeamRowTurned place (streamed 1 lattice solid) mid new → IsBegunTurned place (streamed 1 lattice solid) old new
begun_turned place solid old mid new lattice sized wide row sides inner seam =
    let t = (high (extent old) sized).tiles in
    let kept : (x y : ℕ) → x < old.width → y < old.height → (IsSeamOf place y → ⊥) → has new x y ≡ has mid x y = λ x y h k. seam.rest x y (subst (λ w. x < w) (sym sides.wide) h) (subst (λ n. y < n) (sym sides.high) k) in
    record {
      inner = λ x y h k l.
          kept x (place.row * 64 + y) (subst (λ w. x < w) (sym wide) h) (omega (arith, row, l, t)) (λ at. elim at [ inl a ↦ absurd (omega (arith, a, l)) | inr a ↦ absurd (omega (arith, a, k, l)) ])
          ∙ inner.made x y h k l;
      seam = seam.made;
      rest = λ x y h k not_inner not_seam. kept x y h k not_seam ∙ inner.rest x y h k not_inner;
    }

-- the walls have the lattice's rows of tiles
pub rows_there : (part : Part) (solid cells now lattice : Cells) → IsPartOf part cells lattice 63 → HasSidesOf solid lattice → HasSidesOf now cells → tile_count solid ≡ part.down * (now.width / 64)
rows_there part solid cells now lattice is of_solid sides =
    let down : lattice.height / 64 ≡ part.down = let e = is.placed.down in omega (arith, e) in
    let across : lattice.width / 64 ≡ now.width / 64 = ap (λ w. w / 64) (sym is.placed.wide ∙ sym sides.wide) in
    let turn : now.width / 64 * part.down ≡ part.down * (now.width / 64) = omega arith in
    ap₂ (λ w h. w / 64 * (h / 64)) of_solid.wide of_solid.high ∙ (ap₂ (λ a d. a * d) across down ∙ turn)

-- all own rows in the end
pub strip_turned : (part : Part) (solid old lattice now : Cells) (rows : ℕ) → is_size (extent old) ≡ true → rows + part.margin ≡ old.height / 64 → part.margin ≡ 1 → IsPartOf part old lattice 63
    → AreTurnedOn rows part (streamed 1 lattice solid) (streamed 0 (streamed 1 lattice solid) solid) old now → IsPartOf part now (streamed 0 (streamed 1 lattice solid) solid) 64
strip_turned part solid old lattice now rows sized end strip is turned =
    has_own_rows part old lattice (streamed 0 (streamed 1 lattice solid) solid) now 63 turned.sides (record { wide = refl; high = refl }) (full_streamed 0 (streamed 1 lattice solid) solid) is
    (record {
      row = λ x y h from to.
          let t = (high (extent old) sized).tiles in
          let top : y + part.margin * 64 < old.height = subst (λ n. y + part.margin * 64 < n) turned.sides.high to in
          turned.twice x y (subst (λ w. x < w) (sym is.placed.wide) h) from (omega (arith, top, end, strip, t));
    })
