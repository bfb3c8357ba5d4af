-- Rows of cells as strips show them.
use Rattle.std.proofs.Common.{◌≡◌, ℕ, ◌+◌, ◌-◌, ◌*◌, ◌/◌, ◌%◌, ◌<◌, ◌≤◌, List, ◌++◌, length, take, sym, ap, ◌∙◌, subst, arith, inl, inr}
use Rattle.std.proofs.lemmas.Bool.{cases_eq}
use Rattle.std.proofs.Math.Nat.{add-mod_right}
use lib.Seq.{take_at}
use Rattle.gas_terms.specs.Cells.{Cells, extent, has}
use Rattle.gas_terms.specs.Rows.{row_has, row_bytes, row_replaced}
use Rattle.gas_terms.proofs.Bytes.{length-row_bytes, row_has-row_bytes}
use Rattle.gas_terms.proofs.RowSums.{new_row, other_row}
use Rattle.gas_plane.specs.Planes.{IsLattice}
use Rattle.gas_plane.proofs.Places.{wide}
use Rattle.phase_step.specs.Parts.{HasRows}
use Rattle.phase_strips.specs.Courses.{AreRowBytes, HasCellRow, AreOtherRowsKept}
use Rattle.phase_strips.specs.Strips.{place_of}
use Rattle.phase_strips.specs.declared.runs.strip.OwnRows.{OwnRows}
use Rattle.phase_strips.proofs.Loads.{own_row}

-- the bytes of a row that is the lattice's
pub row_shown : (lattice cells : Cells) (row y : ℕ) (bytes : List ℕ) → IsLattice cells → HasCellRow lattice row cells y → bytes ≡ row_bytes cells y → AreRowBytes lattice row bytes
row_shown lattice cells row y bytes is there e =
    let tiles = (wide (extent cells) is.sized).tiles in
    record {
      len = ap length e ∙ (length-row_bytes cells y ∙ ap (λ w. w / 8) there.wide);
      cell = λ x less.
          ap (λ b. row_has b x) e
          ∙ (row_has-row_bytes cells x y (omega (arith, tiles)) (subst (λ w. x < w) (sym there.wide) less)
          ∙ there.cell x less);
    }

-- written over a list of their length
pub row_written : (lattice cells : Cells) (row y len : ℕ) (bytes rest : List ℕ) → IsLattice cells → HasCellRow lattice row cells y → bytes ≡ row_bytes cells y → len ≡ cells.width / 8 → AreRowBytes lattice row (take len (bytes ++ rest))
row_written lattice cells row y len bytes rest is there e len_is =
    subst (AreRowBytes lattice row) (sym (take_at bytes rest len (ap length e ∙ (length-row_bytes cells y ∙ sym len_is)))) (row_shown lattice cells row y bytes is there e)

-- and where they are put
pub row_put : (lattice old new : Cells) (row y : ℕ) (bytes : List ℕ) → old.width ≡ lattice.width → y < old.height → AreRowBytes lattice row bytes → new ≡ row_replaced old y bytes → HasCellRow lattice row new y
row_put lattice old new row y bytes wide_is below is e = record {
  wide = ap (λ (c : Cells). c.width) e ∙ wide_is;
  cell = λ x less. ap (λ (c : Cells). has c x y) e ∙ (new_row old y bytes x (subst (λ w. x < w) (sym wide_is) less) below ∙ is.cell x less);
}

pub others_kept : (old new : Cells) (y : ℕ) (bytes : List ℕ) → new ≡ row_replaced old y bytes → AreOtherRowsKept old y new
others_kept old new y bytes e = record {
  sides = record { wide = ap (λ (c : Cells). c.width) e; high = ap (λ (c : Cells). c.height) e };
  row = λ x z xl zl apart. ap (λ (c : Cells). has c x z) e ∙ other_row old y bytes x z xl zl apart;
}

-- a strip's first and last row, in the lattice
pub own_shown : (lattice cells : Cells) (own : OwnRows) (row y : ℕ) → 0 < own.rows → own.first + own.rows ≤ lattice.height / 64 → cells.width ≡ lattice.width → cells.height ≡ (own.rows + 2) * 64
    → HasRows (place_of (lattice.height / 64) own) cells lattice 64 → 64 ≤ y → y < (own.rows + 1) * 64 → row ≡ own.first * 64 + (y - 64) → HasCellRow lattice row cells y
own_shown lattice cells own row y some inside wide_is tall rows low high e = record {
  wide = wide_is;
  cell = λ x xl.
      rows.row x y xl (omega arith) (omega (arith, tall))
      ∙ ap (has lattice x) (own_row own.first (lattice.height / 64) y low (omega (arith, inside, high)) ∙ sym e);
}

-- The strip takes the rows next to its own: first the one above, then the one below.
pub record AreTaken (lattice zero one two : Cells) (own : OwnRows) (upper lower : ℕ) : Type 0 where
  pub some : 0 < own.rows
  pub down_some : 0 < lattice.height / 64
  pub whole : lattice.height ≡ lattice.height / 64 * 64
  pub wide : zero.width ≡ lattice.width
  pub tall : zero.height ≡ (own.rows + 2) * 64
  pub rows : HasRows (place_of (lattice.height / 64) own) zero lattice 64
  pub upper_is : upper ≡ (own.first * 64 + lattice.height - 1) % lattice.height
  pub lower_is : lower ≡ ((own.first + own.rows) * 64 - 1 + 1) % lattice.height
  pub above : HasCellRow lattice upper one 63
  pub above_kept : AreOtherRowsKept zero 63 one
  pub below : HasCellRow lattice lower two (own.rows * 64 + 64)
  pub below_kept : AreOtherRowsKept one (own.rows * 64 + 64) two

pub edges_taken : (lattice zero one two : Cells) (own : OwnRows) (upper lower : ℕ) → AreTaken lattice zero one two own upper lower → HasRows (place_of (lattice.height / 64) own) two lattice 63
edges_taken lattice zero one two own upper lower t = record {
  row = λ x y xl low high.
      let down = lattice.height / 64 in
      let tall = t.tall in
      let one_sides = t.above_kept.sides in
      let two_sides = t.below_kept.sides in
      let one_tall : one.height ≡ (own.rows + 2) * 64 = one_sides.high ∙ tall in
      let two_tall : two.height ≡ (own.rows + 2) * 64 = two_sides.high ∙ one_tall in
      let xz : x < zero.width = subst (λ w. x < w) (sym t.wide) xl in
      let xo : x < one.width = subst (λ w. x < w) (sym one_sides.wide) xz in
      let whole = t.whole in
      let down_some = t.down_some in
      elim (cases_eq y (own.rows * 64 + 64)) [
        | inl last ↦
            let e : (own.first + down - 1) * 64 + y ≡ (own.first + own.rows) * 64 + down * 64 = omega (arith, last, down_some) in
            let f : (own.first + own.rows) * 64 - 1 + 1 ≡ (own.first + own.rows) * 64 = let some = t.some in omega (arith, some) in
            let turn : ((own.first + down - 1) * 64 + y) % (down * 64) ≡ lower =
            ap (λ n. n % (down * 64)) e
            ∙ (add-mod_right ((own.first + own.rows) * 64) (down * 64)
            ∙ (ap (λ n. (own.first + own.rows) * 64 % n) (sym whole)
            ∙ (ap (λ n. n % lattice.height) (sym f)
            ∙ sym t.lower_is))) in
            ap (has two x) last ∙ (t.below.cell x xl ∙ ap (has lattice x) (sym turn))
        | inr other ↦
            t.below_kept.row x y xo (omega (arith, one_tall, two_tall, high)) other
            ∙ elim (cases_eq y 63) [
              | inl first ↦
                  let e : (own.first + down - 1) * 64 + y ≡ own.first * 64 + down * 64 - 1 = omega (arith, first, down_some) in
                  let turn : ((own.first + down - 1) * 64 + y) % (down * 64) ≡ upper =
                  ap (λ n. n % (down * 64)) e
                  ∙ (ap (λ n. (own.first * 64 + n - 1) % n) (sym whole)
                  ∙ sym t.upper_is) in
                  ap (has one x) first ∙ (t.above.cell x xl ∙ ap (has lattice x) (sym turn))
              | inr inner ↦
                  t.above_kept.row x y xz (omega (arith, tall, two_tall, high)) inner
                  ∙ t.rows.row x y xl (omega (arith, low, inner)) (omega (arith, tall, two_tall, high, other))
            ]
      ];
}
