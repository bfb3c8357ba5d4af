-- What strips load from a lattice, and put into it.
use Rattle.std.proofs.Common.{◌≡◌, ℕ, ◌+◌, ◌-◌, ◌*◌, ◌/◌, ◌%◌, ◌<◌, ◌≤◌, ◌⊎◌, sym, ap, ◌∙◌, subst, arith, inl, inr}
use Rattle.std.proofs.Math.Nat.{add-mod_right}
use Rattle.std.proofs.lemmas.Nat.{mod-mul-add}
use Rattle.std.proofs.lemmas.Bool.{cases_lt}
use Rattle.gas_terms.specs.Cells.{Cells, HasSidesOf, extent, has}
use Rattle.gas_plane.specs.Planes.{IsLattice}
use Rattle.gas_plane.proofs.Places.{high}
use Rattle.phase_step.specs.Parts.{HasRows}
use Rattle.phase_step.proofs.OwnTiles.{row_turns}
use Rattle.phase_strips.specs.Strips.{place_of, IsInside, AreCopied, ArePut, HasTileRow}
use Rattle.phase_strips.specs.declared.runs.strip.OwnRows.{OwnRows}

-- row y of a strip, as a row of the lattice's torus
row_is : (first down y : ℕ) → 0 < down → ((first + down - 1) * 64 + y) % (down * 64) ≡ (first + down - 1 + y / 64) % down * 64 + y % 64
row_is first down y some =
    let e : (first + down - 1) * 64 + y ≡ (first + down - 1) * 64 + (y / 64 * 64 + y % 64) = omega arith in
    ap (λ n. n % (down * 64)) e ∙ row_turns (first + down - 1) (y / 64) down (y % 64) some (omega arith)

-- its own rows have no seam
pub own_row : (first down y : ℕ) → 64 ≤ y → first + y / 64 ≤ down → ((first + down - 1) * 64 + y) % (down * 64) ≡ first * 64 + (y - 64)
own_row first down y low within =
    let some : 0 < down = omega arith in
    let e : first + down - 1 + y / 64 ≡ 1 * down + (first + y / 64 - 1) = omega arith in
    let turn : (first + down - 1 + y / 64) % down ≡ first + y / 64 - 1 = ap (λ n. n % down) e ∙ mod-mul-add 1 down (first + y / 64 - 1) (omega arith) in
    row_is first down y some ∙ (ap (λ n. n * 64 + y % 64) turn ∙ (let f : (first + y / 64 - 1) * 64 + y % 64 ≡ first * 64 + (y - 64) = omega arith in f))

-- What was loaded: its own rows, then the row above, then that below.
pub record IsLoaded (lattice old own_loaded above_loaded new : Cells) (own : OwnRows) (above below : ℕ) : Type 0 where
  pub inside : IsInside (extent lattice) own
  pub tall : old.height ≡ (own.rows + 2) * 64
  pub wide : old.width ≡ lattice.width
  pub one : HasSidesOf own_loaded old
  pub two : HasSidesOf above_loaded own_loaded
  pub three : HasSidesOf new above_loaded
  pub own_copied : AreCopied lattice own.first own.rows old own_loaded 1
  pub above_is : above ≡ (own.first + lattice.height / 64 - 1) % (lattice.height / 64)
  pub above_copied : AreCopied lattice above 1 own_loaded above_loaded 0
  pub below_is : below ≡ (own.first + own.rows - 1 + 1) % (lattice.height / 64)
  pub below_copied : AreCopied lattice below 1 above_loaded new (own.rows + 1)

module _ (lattice old own_loaded above_loaded new : Cells) (own : OwnRows) (above below : ℕ) (l : IsLoaded lattice old own_loaded above_loaded new own above below) where
  down_some : 0 < lattice.height / 64
  down_some = let some = l.inside.some in let inside = l.inside.inside in omega (arith, some, inside)

  below_row : below ≡ (own.first + own.rows) % (lattice.height / 64)
  below_row = let some = l.inside.some in l.below_is ∙ ap (λ n. n % (lattice.height / 64)) (let e : own.first + own.rows - 1 + 1 ≡ own.first + own.rows = omega (arith, some) in e)

  at_above : (x y : ℕ) → x < lattice.width → y < 64 → has above_loaded x y ≡ has lattice x (((own.first + lattice.height / 64 - 1) * 64 + y) % (lattice.height / 64 * 64))
  at_above x y xl yl =
      let down = lattice.height / 64 in
      let y_is : y ≡ 0 * 64 + y = omega arith in
      let turn : ((own.first + down - 1) * 64 + y) % (down * 64) ≡ above * 64 + y =
      row_is own.first down y down_some
      ∙ ((let e : own.first + down - 1 + y / 64 ≡ own.first + down - 1 = omega arith in let f : y % 64 ≡ y = omega arith in ap (λ n. n % down * 64 + y % 64) e ∙ ap (λ n. (own.first + down - 1) % down * 64 + n) f)
      ∙ ap (λ n. n * 64 + y) (sym l.above_is)) in
      ap (has above_loaded x) y_is
      ∙ (l.above_copied.cell x y xl (omega arith)
      ∙ ap (has lattice x) (sym turn))

  at_below : (x y : ℕ) → x < lattice.width → (own.rows + 1) * 64 ≤ y → y < (own.rows + 2) * 64 → has new x y ≡ has lattice x (((own.first + lattice.height / 64 - 1) * 64 + y) % (lattice.height / 64 * 64))
  at_below x y xl low high =
      let down = lattice.height / 64 in
      let q = y - (own.rows + 1) * 64 in
      let some = l.inside.some in
      let y_is : y ≡ (own.rows + 1) * 64 + q = omega arith in
      let row : y / 64 ≡ own.rows + 1 = omega arith in
      let rest : y % 64 ≡ q = omega arith in
      let e : own.first + down - 1 + y / 64 ≡ own.first + own.rows + down = omega (arith, row, down_some) in
      let turn : ((own.first + down - 1) * 64 + y) % (down * 64) ≡ below * 64 + q =
      row_is own.first down y down_some
      ∙ (ap (λ n. n % down * 64 + y % 64) e
      ∙ (ap (λ n. n * 64 + y % 64) (add-mod_right (own.first + own.rows) down ∙ sym below_row)
      ∙ ap (λ n. below * 64 + n) rest)) in
      ap (has new x) y_is
      ∙ (l.below_copied.cell x q xl (omega arith)
      ∙ ap (has lattice x) (sym turn))

  at_own : (x y : ℕ) → x < lattice.width → 64 ≤ y → y < (own.rows + 1) * 64 → has own_loaded x y ≡ has lattice x (((own.first + lattice.height / 64 - 1) * 64 + y) % (lattice.height / 64 * 64))
  at_own x y xl low high =
      let down = lattice.height / 64 in
      let inside = l.inside.inside in
      let y_is : y ≡ 1 * 64 + (y - 64) = omega arith in
      ap (has own_loaded x) y_is
      ∙ (l.own_copied.cell x (y - 64) xl (omega arith)
      ∙ ap (has lattice x) (sym (own_row own.first down y low (omega (arith, inside, high)))))

  pub all_loaded : HasRows (place_of (lattice.height / 64) own) new lattice 0
  all_loaded = record {
    row = λ x y xl low high.
        let tall : new.height ≡ (own.rows + 2) * 64 = l.three.high ∙ (l.two.high ∙ (l.one.high ∙ l.tall)) in
        let above_wide : above_loaded.width ≡ lattice.width = l.two.wide ∙ (l.one.wide ∙ l.wide) in
        let own_wide : own_loaded.width ≡ lattice.width = l.one.wide ∙ l.wide in
        let above_tall : above_loaded.height ≡ (own.rows + 2) * 64 = l.two.high ∙ (l.one.high ∙ l.tall) in
        let own_tall : own_loaded.height ≡ (own.rows + 2) * 64 = l.one.high ∙ l.tall in
        elim (cases_lt y ((own.rows + 1) * 64)) [
          | inr past ↦ at_below x y xl past (omega (arith, high, tall))
          | inl less ↦
              l.below_copied.kept x y (subst (λ w. x < w) (sym above_wide) xl) (omega (arith, above_tall, less)) (inl less)
              ∙ elim (cases_lt y 64) [
                | inl first ↦ at_above x y xl first
                | inr inner ↦
                    l.above_copied.kept x y (subst (λ w. x < w) (sym own_wide) xl) (omega (arith, own_tall, less)) (inr (omega (arith, inner)))
                    ∙ at_own x y xl inner less
              ]
        ];
  }

-- Some of a strip's own rows are put into a lattice.
pub rows_put : (own : OwnRows) (strip old new lattice : Cells) (from rows : ℕ) → IsInside (extent old) own → from + rows ≤ own.rows → IsLattice old → HasSidesOf old lattice
    → strip.width ≡ old.width → strip.height ≡ (own.rows + 2) * 64 → AreCopied strip (from + 1) rows old new (own.first + from)
    → HasRows (place_of (old.height / 64) own) strip lattice 64 → ArePut lattice old (own.first + from) rows new
rows_put own strip old new lattice from rows is_inside few is sides wide_is tall copied own_rows =
    let down = old.height / 64 in
    let inside = is_inside.inside in
    let tiles = (high (extent old) is.sized).tiles in
    let put : (r : ℕ) → own.first + from ≤ r → r < own.first + from + rows → HasTileRow lattice new r = λ r low less. record {
      cell = λ x q xl ql.
          let j = r - (own.first + from) in
          let r_is : r * 64 + q ≡ (own.first + from) * 64 + (j * 64 + q) = omega (arith, low) in
          let y = (from + 1) * 64 + (j * 64 + q) in
          let row : y / 64 ≡ from + 1 + j = omega arith in
          let there : own.first * 64 + (y - 64) ≡ r * 64 + q = omega (arith, low) in
          ap (has new x) r_is
          ∙ (copied.cell x (j * 64 + q) (subst (λ w. x < w) (sym (wide_is ∙ sides.wide)) xl) (omega (arith, low, less))
          ∙ (own_rows.row x y xl (omega arith) (omega (arith, tall, few, low, less))
          ∙ ap (has lattice x) (own_row own.first down y (omega arith) (omega (arith, inside, few, low, less)) ∙ there)));
    } in
    record {
      put = put;
      kept = λ r below was.
          let beside : (r * 64 + 64 ≤ (own.first + from) * 64) ⊎ ((own.first + from + rows) * 64 ≤ r * 64) → HasTileRow lattice new r = λ apart. record {
            cell = λ x q xl ql.
                copied.kept x (r * 64 + q) (subst (λ w. x < w) (sym sides.wide) xl) (let e = sides.high in omega (arith, below, tiles, e)) (elim apart [
                  | inl low ↦ inl (omega arith)
                  | inr past ↦ inr (omega arith)
                ])
                ∙ was.cell x q xl ql;
          } in
          elim (cases_lt r (own.first + from)) [
            | inl low ↦ beside (inl (omega arith))
            | inr up ↦ elim (cases_lt r (own.first + from + rows)) [
              | inl inner ↦ put r up inner
              | inr past ↦ beside (inr (omega arith))
            ]
          ];
    }
