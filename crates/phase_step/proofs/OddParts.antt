-- The phase of parity 1 of a part, row of tiles by row.
use Rattle.std.proofs.Common.{◌≡◌, ◌⊎◌, ℕ, ◌+◌, ◌-◌, ◌*◌, ◌/◌, ◌%◌, ◌<◌, ◌≤◌, true, refl, sym, ap, ◌∙◌, subst, arith, inl, inr}
use Rattle.std.proofs.Math.Nat.{mod-lt, mod-eq_of_lt, mod-add-mod, add-mod_right}
use Rattle.std.proofs.lemmas.Nat.{mod-mul-add}
use Rattle.std.proofs.lemmas.Bool.{cases_eq}
use Rattle.gas_terms.specs.Cells.{Cells, HasSidesOf, has, extent, is_size}
use Rattle.gas_terms.specs.Gas.{streamed}
use Rattle.gas_plane.proofs.Places.{IsWholeTiles, high, cell_below}
use Rattle.phase_step.specs.Parts.{start_of, row_in, IsPartOf}
use Rattle.phase_step.specs.OddPhase.{IsRowThere, below_there, HasInner, HasSeam, IsInnerOf, IsSeamOf, IsSeamRowTurned, IsBegunTurned, begins_in, AreTurnedTo}
use Rattle.phase_step.specs.declared.odd_phase.RowPlace.{RowPlace}
use Rattle.phase_step.specs.declared.parts.Part.{Part}
use Rattle.phase_step.proofs.OwnTiles.{down_some, row_turns}
use Rattle.phase_step.proofs.MadeCells.{all_turned, made_next}

-- the row of cells above one, round a torus of h
pub above : (h y : ℕ) → 0 < h → y < h → ((1 ≤ y) × ((y + h - 1) % h ≡ y - 1)) ⊎ ((y ≡ 0) × ((y + h - 1) % h ≡ h - 1))
above h y some within =
    elim (cases_eq y 0) [
      | inl e ↦ inr (e, ap (λ n. n % h) (let z : y + h - 1 ≡ h - 1 = omega (arith, e) in z) ∙ mod-eq_of_lt (let z : h - 1 < h = omega (arith, some) in z))
      | inr ne ↦ inl (omega (arith, ne), ap (λ n. n % h) (let z : y + h - 1 ≡ 1 * h + (y - 1) = omega (arith, ne) in z) ∙ mod-mul-add 1 h (y - 1) (let z : y - 1 < h = omega (arith, within, ne) in z))
    ]

-- the row of tiles below one, round a circle of n
pub below_is : (n row : ℕ) → row < n → ((row + 1 < n) × ((row + 1) % n ≡ row + 1)) ⊎ ((row + 1 ≡ n) × ((row + 1) % n ≡ 0))
below_is n row low =
    elim (cases_eq (row + 1) n) [
      | inl e ↦ inr (e, ap (λ m. m % n) (let z : row + 1 ≡ 1 * n + 0 = omega (arith, e) in z) ∙ mod-mul-add 1 n 0 (omega (arith, low)))
      | inr ne ↦ let l : row + 1 < n = omega (arith, ne, low) in inl (l, mod-eq_of_lt l)
    ]

module _ (cells : Cells) (sized : is_size (extent cells) ≡ true) where
  down : IsWholeTiles cells.height
  down = high (extent cells) sized

  some : 0 < cells.height
  some = let t = down.tiles in let s = down.some in omega (arith, t, s)

  -- the blocks of these rows of cells begin in this row of tiles
  pub inner_begins : (row y : ℕ) → row < cells.height / 64 → 1 ≤ y → y < 64 → begins_in cells (row * 64 + y) ≡ row
  inner_begins row y low k l =
      elim (above cells.height (row * 64 + y) some (cell_below cells.height row y down low l)) [
        | inl a ↦ let e = a.1 in omega (arith, e, k, l)
        | inr a ↦ let e = a.0 in absurd (omega (arith, e, k))
      ]

  pub top_in : (row : ℕ) → row < cells.height / 64 → row * 64 < cells.height
  top_in row low = let t = down.tiles in omega (arith, t, low)

  pub seam_begins : (row : ℕ) → row < cells.height / 64 → begins_in cells ((row + 1) % (cells.height / 64) * 64) ≡ row
  seam_begins row low =
      let t = down.tiles in
      elim (below_is (cells.height / 64) row low) [
        | inl b ↦
            let l = b.0 in
            let e = b.1 in
            elim (above cells.height ((row + 1) % (cells.height / 64) * 64) some (omega (arith, e, l, t))) [
              | inl a ↦ let f = a.1 in omega (arith, e, f)
              | inr a ↦ let f = a.0 in absurd (omega (arith, e, f))
            ]
        | inr b ↦
            let l = b.0 in
            let e = b.1 in
            elim (above cells.height ((row + 1) % (cells.height / 64) * 64) some (omega (arith, e, t, low))) [
              | inl a ↦ let f = a.0 in absurd (omega (arith, e, f))
              | inr a ↦ let f = a.1 in omega (arith, e, f, l, t)
            ]
      ]

  pub inner_at : (place : RowPlace) (y : ℕ) → place.row < cells.height / 64 → IsInnerOf place y → begins_in cells y ≡ place.row
  inner_at place y low at =
      let e = at.0 in
      let g = at.1.1 in
      let same : place.row * 64 + y % 64 ≡ y = omega (arith, e) in
      subst (λ n. begins_in cells n ≡ place.row) same (inner_begins place.row (y % 64) low at.1.0 (omega (arith, g)))

  pub seam_at : (place : RowPlace) (y : ℕ) → place.row < cells.height / 64 → place.below ≡ (place.row + 1) % (cells.height / 64) → IsSeamOf place y → begins_in cells y ≡ place.row
  seam_at place y low below at =
      elim at [
        | inl e ↦ subst (λ n. begins_in cells n ≡ place.row) (sym e) (inner_begins place.row 63 low (omega arith) (omega arith))
        | inr e ↦ subst (λ n. begins_in cells n ≡ place.row) (sym (e ∙ ap (λ n. n * 64) below)) (seam_begins place.row low)
      ]

  -- and these rows alone
  pub begins_cases : (row y : ℕ) → row < cells.height / 64 → y < cells.height → begins_in cells y ≡ row → ((y / 64 ≡ row) × (1 ≤ y % 64)) ⊎ (y ≡ (row + 1) % (cells.height / 64) * 64)
  begins_cases row y low within is =
      let t = down.tiles in
      elim (above cells.height y some within) [
        | inr a ↦
            let z = a.0 in
            let e = a.1 in
            elim (below_is (cells.height / 64) row low) [
              | inl b ↦ let l = b.0 in absurd (omega (arith, e, is, l, t))
              | inr b ↦ let f = b.1 in inr (omega (arith, z, f))
            ]
        | inl a ↦
            let s = a.0 in
            let e = a.1 in
            elim (cases_eq (y % 64) 0) [
              | inl f ↦
                  elim (below_is (cells.height / 64) row low) [
                    | inl b ↦ let g = b.1 in inr (omega (arith, f, e, is, g, s))
                    | inr b ↦ let l = b.0 in absurd (omega (arith, f, e, is, l, t, within, s))
                  ]
              | inr nf ↦ inl (omega (arith, nf, e, is, s), omega (arith, nf))
            ]
      ]

-- the blocks that begin in a row of tiles have turned: in a margin those across the seam alone
pub record IsRowDone (part : Part) (place : RowPlace) (next now new : Cells) : Type 0 where
  pub sides : HasSidesOf new now
  pub inner : part.margin ≤ place.row → HasInner place next.width new next
  pub seam : HasSeam place next.width new next
  pub rest : (x y : ℕ) → x < now.width → y < now.height → (part.margin ≤ place.row → IsInnerOf place y → ⊥) → (IsSeamOf place y → ⊥) → has new x y ≡ has now x y

pub margin_done : (part : Part) (place : RowPlace) (next now new : Cells) → place.row < part.margin → HasSidesOf new now → IsSeamRowTurned place next now new → IsRowDone part place next now new
margin_done part place next now new above sides seam =
    record { sides = sides; inner = λ own. absurd (omega (arith, own, above)); seam = seam.made; rest = λ x y h k not_inner not_seam. seam.rest x y h k not_seam }

pub own_done : (part : Part) (place : RowPlace) (next now new : Cells) → part.margin ≤ place.row → HasSidesOf new now → IsBegunTurned place next now new → IsRowDone part place next now new
own_done part place next now new own sides made =
    record { sides = sides; inner = λ _. made.inner; seam = made.seam; rest = λ x y h k not_inner not_seam. made.rest x y h k (not_inner own) not_seam }

-- where a row of tiles of a part stands in the lattice
abbrev pub place_in : Part → Cells → ℕ → RowPlace
place_in part cells row = record { row = row; below = (row + 1) % (cells.height / 64); there = (start_of part + row) % part.down }

module _ (part : Part) (solid old : Cells) (row : ℕ) (sized : is_size (extent old) ≡ true) (low : row + part.margin < old.height / 64) where
  abbrev place : RowPlace
  place = place_in part old row

  pub less : row < old.height / 64
  less = omega (arith, low)

  module _ (lattice : Cells) (is : IsPartOf part old lattice 63) (sides : HasSidesOf solid lattice) where
    abbrev next : Cells
    next = streamed 1 lattice solid

    some_down : 0 < part.down
    some_down = down_some part old lattice is.placed is.sized

    lattice_down : lattice.height / 64 ≡ part.down
    lattice_down = let e = is.placed.down in omega (arith, e)

    pub row_there_is : (now : Cells) → HasSidesOf now old → IsRowThere place solid now lattice
    row_there_is now of_now =
        record {
          sized = is.sized;
          of_solid = sides;
          wide = of_now.wide ∙ is.placed.wide;
          low = subst (λ n. place.there < n) (sym lattice_down) (mod-lt (start_of part + row) some_down);
        }

    -- its rows of cells in the lattice
    pub inner_there : (y : ℕ) → y < 64 → row_in part (row * 64 + y) ≡ place.there * 64 + y
    inner_there y h = row_turns (start_of part) row part.down y some_down h

    turn_there : (start_of part + place.below) % part.down ≡ (place.there + 1) % part.down
    turn_there =
        elim (below_is (old.height / 64) row less) [
          | inl b ↦
              ap (λ n. (start_of part + n) % part.down) b.1
              ∙ (ap (λ n. n % part.down) (let z : start_of part + (row + 1) ≡ start_of part + row + 1 = omega arith in z) ∙ sym (mod-add-mod (start_of part + row) part.down 1))
          | inr b ↦
              let l = b.0 in
              let none : part.margin ≡ 0 = omega (arith, l, low) in
              let all : old.height ≡ part.down * 64 = is.placed.all none ∙ is.placed.down in
              let turn : row + 1 ≡ part.down = omega (arith, l, all) in
              ap (λ n. (start_of part + n) % part.down) b.1
              ∙ (ap (λ n. n % part.down) (let z : start_of part + 0 ≡ start_of part = omega arith in z)
              ∙ (sym (add-mod_right (start_of part) part.down)
              ∙ (ap (λ n. n % part.down) (let z : start_of part + part.down ≡ start_of part + row + 1 = omega (arith, turn) in z) ∙ sym (mod-add-mod (start_of part + row) part.down 1))))
        ]

    pub below_in : row_in part (place.below * 64) ≡ below_there place lattice * 64
    below_in =
        let z : place.below * 64 ≡ place.below * 64 + 0 = omega arith in
        let n : below_there place lattice * 64 + 0 ≡ below_there place lattice * 64 = omega arith in
        ap (row_in part) z
        ∙ (row_turns (start_of part) place.below part.down 0 some_down (omega arith)
        ∙ (ap (λ t. t * 64 + 0) (turn_there ∙ ap (λ m. (place.there + 1) % m) (sym lattice_down)) ∙ n))

    module _ (now : Cells) (so_far : AreTurnedTo row part next old now) where
      -- a row of cells whose blocks begin here is the lattice's
      still : (x y : ℕ) → x < lattice.width → y < old.height → begins_in old y ≡ row → part.margin * 63 ≤ y → y + part.margin * 63 < old.height → has now x y ≡ has lattice x (row_in part y)
      still x y h k begins from to = so_far.rest x y (subst (λ w. x < w) (sym is.placed.wide) h) k (omega (arith, begins)) ∙ is.rows.row x y h from to

      inner_in : (y : ℕ) → y < 64 → row * 64 + y < old.height
      inner_in y h = cell_below old.height row y (high (extent old) sized) less h

      pub inner_ready : part.margin ≤ row → HasInner place lattice.width now lattice
      inner_ready own x y h k l =
          let t = (high (extent old) sized).tiles in
          let m = is.placed.margin in
          still x (row * 64 + y) h (inner_in y (omega (arith, l))) (inner_begins old sized row y less k (omega (arith, l))) (omega (arith, own)) (omega (arith, low, l, t, m))
          ∙ ap (has lattice x) (inner_there y (omega (arith, l)))

      pub seam_ready : HasSeam place lattice.width now lattice
      seam_ready =
          let t = (high (extent old) sized).tiles in
          let m = is.placed.margin in
          record {
            bottom = λ x h.
                still x (row * 64 + 63) h (inner_in 63 (omega arith)) (inner_begins old sized row 63 less (omega arith) (omega arith)) (omega (arith, m)) (omega (arith, low, t, m))
                ∙ ap (has lattice x) (inner_there 63 (omega arith));
            top = λ x h.
                let within : place.below * 64 < old.height = top_in old sized place.below (mod-lt (row + 1) (high (extent old) sized).some) in
                let range : (part.margin * 63 ≤ place.below * 64) × (place.below * 64 + part.margin * 63 < old.height) =
                elim (below_is (old.height / 64) row less) [
                  | inl b ↦ let e = b.1 in (omega (arith, e, m), omega (arith, e, low, t, m))
                  | inr b ↦ let l = b.0 in let none : part.margin ≡ 0 = omega (arith, l, low) in (omega (arith, none), omega (arith, none, within))
                ]
                in
                still x (place.below * 64) h within (seam_begins old sized row less) range.0 range.1 ∙ ap (has lattice x) below_in;
          }

    -- one row of tiles more
    pub odd_row_next : (now new : Cells) → AreTurnedTo row part next old now → IsRowDone part place next now new → AreTurnedTo (row + 1) part next old new
    odd_row_next now new so_far done =
        let sides = so_far.sides in
        let kept : (x y : ℕ) → x < old.width → y < old.height → (begins_in old y ≡ row → ⊥) → has new x y ≡ has now x y =
        λ x y h k other.
        done.rest x y (subst (λ w. x < w) (sym sides.wide) h) (subst (λ n. y < n) (sym sides.high) k) (λ own at. other (inner_at old sized place y less at)) (λ at. other (seam_at old sized place y less refl at)) in
        made_next (λ x y. begins_in old y) row 63 part next old now new so_far done.sides kept
        (λ x y h from to e.
        let l : x < lattice.width = subst (λ w. x < w) is.placed.wide h in
        elim (begins_cases old sized row y less (omega (arith, to)) e) [
          | inr b ↦ subst (λ n. has new x n ≡ has next x (row_in part n)) (sym b) (done.seam.top x l ∙ ap (has next x) (sym below_in))
          | inl b ↦
              let f = b.0 in
              let g = b.1 in
              let same : row * 64 + y % 64 ≡ y = omega (arith, f) in
              subst (λ n. has new x n ≡ has next x (row_in part n)) same
              (elim (cases_eq (y % 64) 63) [
                | inl last ↦
                    subst (λ v. has new x (row * 64 + v) ≡ has next x (row_in part (row * 64 + v))) (sym last)
                    (done.seam.bottom x l ∙ ap (has next x) (sym (inner_there 63 (omega arith))))
                | inr not_last ↦
                    let m = is.placed.margin in
                    let own : part.margin ≤ row = omega (arith, from, f, not_last, m) in
                    done.inner own x (y % 64) l g (omega (arith, not_last)) ∙ ap (has next x) (sym (inner_there (y % 64) (omega arith)))
              ])
        ])

-- and all in the end
pub odd_part_turned : (part : Part) (solid old lattice now : Cells) (rows : ℕ) → is_size (extent old) ≡ true → rows + part.margin ≡ old.height / 64 → IsPartOf part old lattice 63 → AreTurnedTo rows part (streamed 1 lattice solid) old now
    → IsPartOf part now (streamed 1 lattice solid) 64
odd_part_turned part solid old lattice now rows sized all is turned =
    let t = (high (extent old) sized).tiles in
    let s = some old sized in
    all_turned (λ x y. begins_in old y) rows 63 1 part solid old lattice now (omega arith) is
    (λ x y h from to.
    elim (above old.height y s (omega (arith, to))) [
      | inl a ↦ let e = a.1 in let l = a.0 in omega (arith, e, to, all, t, l)
      | inr a ↦ let e = a.1 in let z = a.0 in omega (arith, e, z, from, all, t, s)
    ])
    turned
