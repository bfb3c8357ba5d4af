-- Two phases of a whole lattice in one sweep, row of tiles by row.
use Rattle.std.proofs.Common.{◌≡◌, ℕ, ◌+◌, ◌*◌, ◌/◌, ◌%◌, ◌<◌, ◌≤◌, true, refl, sym, ap₂, mul-le-mul, ◌∙◌, subst, arith, inl, inr}
use Rattle.std.proofs.Math.Nat.{mod-lt}
use Rattle.std.proofs.lemmas.Bool.{cases_eq}
use Rattle.gas_terms.specs.Cells.{Cells, HasSidesOf, has, extent, is_size, tile_count, IsFull}
use Rattle.gas_terms.proofs.Cells.{same_cells}
use Rattle.gas_plane.proofs.Places.{high, cell_below}
use Rattle.phase_step.specs.OddPhase.{IsRowThere, HasRow, HasInner, HasSeam, IsEvenRowTurned, IsBegunTurned, begins_in, AreTurnedTwice, IsNextTurned, once_turned, twice_turned, place_in_whole}
use Rattle.phase_step.specs.declared.odd_phase.RowPlace.{RowPlace}
use Rattle.phase_step.proofs.OddParts.{above, below_is, inner_begins, seam_begins, begins_cases, top_in, inner_at, seam_at}

pub place_in_whole_is : (place : RowPlace) (cells : Cells) (row : ℕ) → place.row ≡ row → place.below ≡ (row + 1) % (cells.height / 64) → place.there ≡ row → place ≡ place_in_whole cells row
place_in_whole_is place cells row e f g = grind (arith)

pub whole_row_there_is : (solid cells lattice : Cells) (row : ℕ) → is_size (extent lattice) ≡ true → HasSidesOf solid lattice → HasSidesOf cells lattice → row < lattice.height / 64 → IsRowThere (place_in_whole lattice row) solid cells lattice
whole_row_there_is solid cells lattice row sized of_solid sides low = record { sized = sized; of_solid = of_solid; wide = sides.wide; low = low }

-- a row of tiles of a set
pub room_there : (set cells now : Cells) (row there : ℕ) → HasSidesOf set cells → HasSidesOf now cells → row < cells.height / 64 → there ≡ row → there * (now.width / 64) + now.width / 64 ≤ tile_count set
room_there set cells now row there sides same low e =
    let a = cells.width / 64 in
    let most : (row + 1) * a ≤ cells.height / 64 * a = mul-le-mul (let l : row + 1 ≤ cells.height / 64 = omega (arith, low) in l) (let r : a ≤ a = omega arith in r) in
    let turn : cells.height / 64 * a ≡ a * (cells.height / 64) = omega arith in
    let one : (row + 1) * a ≡ row * a + a = omega arith in
    let in_set : tile_count set ≡ a * (cells.height / 64) = ap₂ (λ w h. w / 64 * (h / 64)) sides.wide sides.high in
    let here : there * (now.width / 64) + now.width / 64 ≡ row * a + a = ap₂ (λ r w. r * (w / 64) + w / 64) e same.wide in
    omega (arith, most, turn, one, in_set, here)

-- none has turned twice at the beginning
pub first_turned : (mid next old now : Cells) → HasSidesOf now old → HasSidesOf mid old → IsEvenRowTurned (place_in_whole old 0) mid old now → AreTurnedTwice 0 mid next old now
first_turned mid next old now sides of_mid row =
    record {
      sides = sides;
      twice = λ x y h k before. absurd (omega (arith, before));
      once = λ x y h k from low.
          let e : 0 * 64 + y ≡ y = omega arith in
          subst (λ n. has now x n ≡ has mid x n) e (row.made x y (subst (λ w. x < w) (sym of_mid.wide) h) (omega (arith, low)));
      rest = λ x y h k below. row.rest x y h k (λ e. omega (arith, e, below));
    }

-- all have in the end
pub all_turned_twice : (rows : ℕ) (mid next old now : Cells) → is_size (extent old) ≡ true → rows ≡ old.height / 64 → HasSidesOf next old → IsFull now → IsFull next → AreTurnedTwice rows mid next old now → now ≡ next
all_turned_twice rows mid next old now sized all of_next full full_next is =
    same_cells now next full full_next (is.sides.wide ∙ sym of_next.wide) (is.sides.high ∙ sym of_next.high)
    (λ x y h k.
    let k' : y < old.height = subst (λ n. y < n) is.sides.high k in
    let t = (high (extent old) sized).tiles in
    let s = (high (extent old) sized).some in
    let some : 0 < old.height = omega (arith, t, s) in
    is.twice x y (subst (λ w. x < w) is.sides.wide h) k'
    (elim (above old.height y some k') [
      | inl a ↦ let e = a.1 in let l = a.0 in omega (arith, e, l, k', all, t)
      | inr a ↦ let e = a.1 in omega (arith, e, all, t, s)
    ]))

-- what a row is turned among, by what stood before
pub record IsSetting (solid old : Cells) (row : ℕ) : Type 0 where
  pub sides : HasSidesOf solid old
  pub low : row < old.height / 64

pub setting : (solid old now : Cells) (row : ℕ) → HasSidesOf now old → HasSidesOf solid now → row < now.height / 64 → IsSetting solid old row
setting solid old now row sides of_solid low =
    record {
      sides = record { wide = of_solid.wide ∙ sides.wide; high = of_solid.high ∙ sides.high };
      low = subst (λ h. row < h / 64) sides.high low;
    }

module _ (solid old : Cells) (row : ℕ) (sized : is_size (extent old) ≡ true) where
  abbrev mid : Cells
  mid = once_turned solid old

  abbrev next : Cells
  next = twice_turned solid old

  some : 0 < old.height
  some = let t = (high (extent old) sized).tiles in let s = (high (extent old) sized).some in omega (arith, t, s)

  -- the blocks of a lower row of cells begin no higher
  begins_below : (y r : ℕ) → y < old.height → r + 1 ≤ y / 64 → r ≤ begins_in old y
  begins_below y r k from =
      elim (above old.height y some k) [
        | inl a ↦ let e = a.1 in omega (arith, e, from)
        | inr a ↦ let e = a.0 in absurd (omega (arith, e, from))
      ]

  module _ (now : Cells) (so_far : AreTurnedTwice row mid next old now) where
    pub ready_row : row + 1 < old.height / 64 → HasRow (place_in_whole old (row + 1)) old.width now old
    ready_row more x y h k = so_far.rest x ((row + 1) * 64 + y) h (cell_below old.height (row + 1) y (high (extent old) sized) more k) (omega (arith, k))

    pub next_turned : (new : Cells) → HasSidesOf new now → IsEvenRowTurned (place_in_whole old (row + 1)) mid now new → IsNextTurned row mid next old new
    next_turned new sides even =
        let other : (x y : ℕ) → x < old.width → y < old.height → (y / 64 ≡ row + 1 → ⊥) → has new x y ≡ has now x y = λ x y h k. even.rest x y (subst (λ w. x < w) (sym so_far.sides.wide) h) (subst (λ n. y < n) (sym so_far.sides.high) k) in
        record {
          sides = record { wide = sides.wide ∙ so_far.sides.wide; high = sides.high ∙ so_far.sides.high };
          twice = λ x y h k before. other x y h k (λ e. let l = begins_below y row k (omega (arith, e)) in absurd (omega (arith, l, before))) ∙ so_far.twice x y h k before;
          once = λ x y h k from low.
              elim (cases_eq (y / 64) (row + 1)) [
                | inl e ↦
                    let at : (row + 1) * 64 + y % 64 ≡ y = omega (arith, e) in
                    subst (λ n. has new x n ≡ has mid x n) at (even.made x (y % 64) h (omega arith))
                | inr ne ↦ other x y h k ne ∙ so_far.once x y h k from (omega (arith, low, ne))
              ];
          rest = λ x y h k below. other x y h k (λ e. absurd (omega (arith, e, below))) ∙ so_far.rest x y h k (omega (arith, below));
        }

    -- the last row has none below
    pub none_next : row + 1 ≡ old.height / 64 → IsNextTurned row mid next old now
    none_next last =
        let t = (high (extent old) sized).tiles in
        record {
          sides = so_far.sides;
          twice = so_far.twice;
          once = λ x y h k from low. so_far.once x y h k from (omega (arith, k, last, t));
          rest = λ x y h k below. absurd (omega (arith, below, k, last, t));
        }

  module _ (low : row < old.height / 64) (now : Cells) (ready : IsNextTurned row mid next old now) where
    abbrev place : RowPlace
    place = place_in_whole old row

    pub whole_inner_ready : HasInner place mid.width now mid
    whole_inner_ready x y h k l =
        ready.once x (row * 64 + y) h (cell_below old.height row y (high (extent old) sized) low (omega (arith, l)))
        (let e = inner_begins old sized row y low k (omega (arith, l)) in omega (arith, e)) (omega (arith, l))

    pub whole_seam_ready : HasSeam place mid.width now mid
    whole_seam_ready =
        let down = high (extent old) sized in
        record {
          bottom = λ x h.
              let k = cell_below old.height row 63 down low (omega arith) in
              ready.once x (row * 64 + 63) h k (let e = inner_begins old sized row 63 low (omega arith) (omega arith) in omega (arith, e)) (omega arith);
          top = λ x h.
              let k = top_in old sized place.below (mod-lt (row + 1) down.some) in
              let up : place.below ≤ row + 1 = elim (below_is (old.height / 64) row low) [ inl b ↦ let e = b.1 in omega (arith, e) | inr b ↦ let e = b.1 in omega (arith, e) ] in
              ready.once x (place.below * 64) h k (let e = seam_begins old sized row low in omega (arith, e)) (omega (arith, up));
        }

    pub turned_twice : (new : Cells) → HasSidesOf new now → IsBegunTurned place next now new → AreTurnedTwice (row + 1) mid next old new
    turned_twice new of_new made =
        let kept : (x y : ℕ) → x < old.width → y < old.height → (begins_in old y ≡ row → ⊥) → has new x y ≡ has now x y =
        λ x y h k other.
        made.rest x y (subst (λ w. x < w) (sym ready.sides.wide) h) (subst (λ n. y < n) (sym ready.sides.high) k) (λ at. other (inner_at old sized place y low at)) (λ at. other (seam_at old sized place y low refl at)) in
        record {
          sides = record { wide = of_new.wide ∙ ready.sides.wide; high = of_new.high ∙ ready.sides.high };
          twice = λ x y h k before.
              elim (cases_eq (begins_in old y) row) [
                | inr ne ↦ kept x y h k ne ∙ ready.twice x y h k (omega (arith, ne, before))
                | inl e ↦ elim (begins_cases old sized row y low k e) [
                  | inr b ↦ subst (λ n. has new x n ≡ has next x n) (sym b) (made.seam.top x h)
                  | inl b ↦
                      let f = b.0 in
                      let g = b.1 in
                      let same : row * 64 + y % 64 ≡ y = omega (arith, f) in
                      subst (λ n. has new x n ≡ has next x n) same
                      (elim (cases_eq (y % 64) 63) [
                        | inl last ↦ subst (λ v. has new x (row * 64 + v) ≡ has next x (row * 64 + v)) (sym last) (made.seam.bottom x h)
                        | inr not_last ↦ made.inner x (y % 64) h g (omega (arith, not_last))
                      ])
                ]
              ];
          once = λ x y h k from up. kept x y h k (λ e. absurd (omega (arith, e, from))) ∙ ready.once x y h k (omega (arith, from)) up;
          rest = λ x y h k below. kept x y h k (λ e. let l = begins_below y (row + 1) k (omega (arith, below)) in absurd (omega (arith, l, e))) ∙ ready.rest x y h k below;
        }
