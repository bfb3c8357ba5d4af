-- The cells of a part are turned or acted on in some order, such as tile by tile.
use Rattle.std.proofs.Common.{◌≡◌, ℕ, ◌+◌, ◌-◌, ◌*◌, ◌/◌, ◌%◌, ◌<◌, ◌≤◌, ◌==◌, true, if◌then◌else◌, refl, sym, ap, ap₂, ◌∙◌, subst, arith, inl, inr}
use Rattle.std.proofs.Math.Nat.{mul-le-mul_left}
use Rattle.std.proofs.lemmas.Nat.{mod-mul-add, div-mul-add}
use Rattle.std.proofs.lemmas.Bool.{cases_eq, eq-eqb, ne_eqb}
use Rattle.bit_tile.specs.Tile as tile
use Rattle.bit_tile.specs.Tile.{HasCells}
use Rattle.bit_tile.specs.declared.Tile.{Tile}
use Rattle.gas_terms.specs.Cells.{Cells, HasSidesOf, has, extent, is_size, tile_rectangle, IsFull}
use Rattle.gas_terms.specs.Gas.{streamed, arrived, site_of}
use Rattle.gas_terms.specs.Velocity.{velocity_at}
use Rattle.gas_terms.proofs.Cells.{has-cells_where, full-cells_where}
use Rattle.gas_plane.specs.Planes.{IsLattice, IsTileFrom, with_tile, tile_of}
use Rattle.gas_plane.proofs.Places.{wide, high, tile_below}
use Rattle.gas_plane.proofs.Sweeps.{left_of, top_of, tile_column}
use Rattle.gas_plane.proofs.Tilings.{choose_true, choose_false}
use Rattle.phase_step.specs.Actions.{Leaves, acted}
use Rattle.phase_step.specs.Parts.{row_in, tile_in, made_to, IsPlaced, HasRows, IsOwn, IsPartOf, AreMadeTo}
use Rattle.phase_step.specs.declared.parts.Part.{Part}
use Rattle.phase_step.proofs.ActedTiles.{cell_within}
use Rattle.phase_step.proofs.Sides.{sized_as}
use Rattle.phase_step.proofs.OwnTiles.{own_at, own_past, cell_column, cell_row}

-- the cell (x, y) when tile i is replaced
module _ (cells now : Cells) (i : ℕ) (t : Tile) (sides : HasSidesOf now cells) (x y : ℕ) (h : x < cells.width) (k : y < cells.height) where
  there : has (with_tile now i t) x y ≡ (if tile_of now x y == i then tile.has t (x % 64) (y % 64) else has now x y)
  there = has-cells_where now.width now.height (λ x y. if tile_of now x y == i then tile.has t (x % 64) (y % 64) else has now x y) x y (subst (λ w. x < w) (sym sides.wide) h) (subst (λ n. y < n) (sym sides.high) k)

  same_tile : tile_of now x y ≡ tile_of cells x y
  same_tile = ap (λ w. y / 64 * (w / 64) + x / 64) sides.wide

  pub with_here : tile_of cells x y ≡ i → has (with_tile now i t) x y ≡ tile.has t (x % 64) (y % 64)
  with_here e = there ∙ sym (choose_true _ _ _ _ (eq-eqb (tile_of now x y) i (same_tile ∙ e)) refl)

  pub with_other : (tile_of cells x y ≡ i → ⊥) → has (with_tile now i t) x y ≡ has now x y
  with_other other = there ∙ sym (choose_false _ _ _ _ (ne_eqb (tile_of now x y) i (λ e. other (sym same_tile ∙ e))) refl)

-- none at the beginning
pub none_made : (order : ℕ → ℕ → ℕ) (n k : ℕ) (part : Part) (next old : Cells) → ((x y : ℕ) → x < old.width → part.margin * k ≤ y → y + part.margin * k < old.height → n ≤ order x y) → AreMadeTo (made_to order n k part) next old old
none_made order n k part next old none =
    record {
      sides = record { wide = refl; high = refl };
      made = λ x y h low top before. absurd (let from = none x y h low top in omega (arith, before, from));
      rest = λ x y h top from. refl;
    }

-- those in one place more
pub made_next : (order : ℕ → ℕ → ℕ) (n k : ℕ) (part : Part) (next old now new : Cells) → AreMadeTo (made_to order n k part) next old now → HasSidesOf new now
    → ((x y : ℕ) → x < old.width → y < old.height → (order x y ≡ n → ⊥) → has new x y ≡ has now x y)
    → ((x y : ℕ) → x < old.width → part.margin * k ≤ y → y + part.margin * k < old.height → order x y ≡ n → has new x y ≡ has next x (row_in part y))
    → AreMadeTo (made_to order (n + 1) k part) next old new
made_next order n k part next old now new so_far sides others here =
    record {
      sides = record { wide = sides.wide ∙ so_far.sides.wide; high = sides.high ∙ so_far.sides.high };
      made = λ x y h low top before.
          elim (cases_eq (order x y) n) [
            | inl e ↦ here x y h low top e
            | inr ne ↦ others x y h (omega (arith, top)) ne ∙ so_far.made x y h low top (omega (arith, ne, before))
          ];
      rest = λ x y h top from. others x y h top (λ e. absurd (omega (arith, e, from))) ∙ so_far.rest x y h top (omega (arith, from));
    }

-- a part that has its own rows of another lattice of the same sides
pub has_own_rows : (part : Part) (cells lattice next now : Cells) (k : ℕ) → HasSidesOf now cells → HasSidesOf next lattice → IsFull next → IsPartOf part cells lattice k → HasRows part now next 64 → IsPartOf part now next 64
has_own_rows part cells lattice next now k sides of_lattice full is rows =
    let placed = is.placed in
    record {
      sized = sized_as lattice next (record { wide = sym of_lattice.wide; high = sym of_lattice.high }) is.sized;
      full = full;
      placed = record {
        wide = sides.wide ∙ (placed.wide ∙ sym of_lattice.wide);
        down = of_lattice.high ∙ placed.down;
        some = subst (λ h. 2 * part.margin < h / 64) (sym sides.high) placed.some;
        inside = subst (λ h. part.first + (h / 64 - 2 * part.margin) ≤ part.down) (sym sides.high) placed.inside;
        margin = placed.margin;
        all = λ e. sides.high ∙ (placed.all e ∙ sym of_lattice.high);
      };
      rows = rows;
    }

pub full_streamed : (p : ℕ) (lattice solid : Cells) → IsFull (streamed p lattice solid)
full_streamed p lattice solid = full-cells_where lattice.width lattice.height (λ x y. arrived lattice solid (site_of (p + 1) lattice.width lattice.height x y) (velocity_at (p + 1) x y))

pub has_all_made : (order : ℕ → ℕ → ℕ) (n k : ℕ) (part : Part) (cells lattice next now : Cells) → k ≤ 64 → HasSidesOf next lattice → IsFull next → IsPartOf part cells lattice k
    → ((x y : ℕ) → x < cells.width → part.margin * 64 ≤ y → y + part.margin * 64 < cells.height → order x y < n)
    → AreMadeTo (made_to order n k part) next cells now → IsPartOf part now next 64
has_all_made order n k part cells lattice next now few of_lattice full is past made =
    has_own_rows part cells lattice next now k made.sides of_lattice full is
    (record {
      row = λ x y h low top.
          let most : part.margin * k ≤ part.margin * 64 = mul-le-mul_left part.margin few in
          let end : y + part.margin * 64 < cells.height = subst (λ n. y + part.margin * 64 < n) made.sides.high top in
          let right : x < cells.width = subst (λ w. x < w) (of_lattice.wide ∙ sym is.placed.wide) h in
          made.made x y right (omega (arith, most, low)) (omega (arith, most, end)) (past x y right low end);
    })

-- after a phase, and after an action
pub all_turned : (order : ℕ → ℕ → ℕ) (n k p : ℕ) (part : Part) (solid cells lattice now : Cells) → k ≤ 64 → IsPartOf part cells lattice k
    → ((x y : ℕ) → x < cells.width → part.margin * 64 ≤ y → y + part.margin * 64 < cells.height → order x y < n)
    → AreMadeTo (made_to order n k part) (streamed p lattice solid) cells now → IsPartOf part now (streamed p lattice solid) 64
all_turned order n k p part solid cells lattice now few is past made =
    has_all_made order n k part cells lattice (streamed p lattice solid) now few (record { wide = refl; high = refl })
    (full-cells_where lattice.width lattice.height (λ x y. arrived lattice solid (site_of (p + 1) lattice.width lattice.height x y) (velocity_at (p + 1) x y))) is past made

pub all_acted : (order : ℕ → ℕ → ℕ) (n : ℕ) (leaves : Leaves) (part : Part) (cells lattice now : Cells) → IsPartOf part cells lattice 64
    → ((x y : ℕ) → x < cells.width → part.margin * 64 ≤ y → y + part.margin * 64 < cells.height → order x y < n)
    → AreMadeTo (made_to order n 64 part) (acted leaves lattice) cells now → IsPartOf part now (acted leaves lattice) 64
all_acted order n leaves part cells lattice now is past made =
    has_all_made order n 64 part cells lattice (acted leaves lattice) now (omega arith) (record { wide = refl; high = refl }) (full-cells_where lattice.width lattice.height (λ x y. leaves x y (has lattice x y))) is past made

-- Tile by tile: where the cells of an own tile stand.
module _ (part : Part) (cells lattice : Cells) (i : ℕ) (sized : is_size (extent cells) ≡ true) (placed : IsPlaced part cells lattice) (own : IsOwn part cells i) (x y : ℕ) (h : x < cells.width) (e : tile_of cells x y ≡ i) where
  column : x / 64 < cells.width / 64
  column = tile_below cells.width x (wide (extent cells) sized) h

  pub column_at : (tile_rectangle lattice (tile_in part (lattice.width / 64) i)).x + x % 64 ≡ x
  column_at =
      let c : i % (cells.width / 64) ≡ x / 64 = ap (λ n. n % (cells.width / 64)) (sym e) ∙ mod-mul-add (y / 64) (cells.width / 64) (x / 64) column in
      cell_column part cells lattice i sized placed own (x % 64) ∙ omega (arith, c)

  pub row_at : (tile_rectangle lattice (tile_in part (lattice.width / 64) i)).y + y % 64 ≡ row_in part y
  row_at =
      let r : i / (cells.width / 64) ≡ y / 64 = ap (λ n. n / (cells.width / 64)) (sym e) ∙ div-mul-add (y / 64) (cells.width / 64) (x / 64) column in
      let f : top_of cells i + y % 64 ≡ y = omega (arith, r) in
      cell_row part cells lattice i sized placed own (y % 64) (omega arith) ∙ ap (row_in part) f

pub own_before : (part : Part) (cells : Cells) (first end i : ℕ) → is_size (extent cells) ≡ true → first ≡ part.margin * (cells.width / 64) → first ≤ end → end - first ≡ (cells.height / 64 - 2 * part.margin) * (cells.width / 64) → end ≤ i
    → (x y : ℕ) → x < cells.width → part.margin * 64 ≤ y → y + part.margin * 64 < cells.height → tile_of cells x y < i
own_before part cells first end i sized e order count past x y h low top =
    let t = (high (extent cells) sized).tiles in
    own_past part cells first end i e order count past (tile_of cells x y) (own_at part cells (y / 64) (x / 64) (tile_below cells.width x (wide (extent cells) sized) h) (omega (arith, low)) (omega (arith, top, t)))

pub none_before : (part : Part) (cells : Cells) (first : ℕ) → is_size (extent cells) ≡ true → first ≡ part.margin * (cells.width / 64) → (x y : ℕ) → x < cells.width → part.margin * 64 ≤ y → y + part.margin * 64 < cells.height → first ≤ tile_of cells x y
none_before part cells first sized e x y h low top =
    let t = (high (extent cells) sized).tiles in
    let own = own_at part cells (y / 64) (x / 64) (tile_below cells.width x (wide (extent cells) sized) h) (omega (arith, low)) (omega (arith, top, t)) in
    let l = own.low in
    omega (arith, e, l)

-- a tile that was not replaced yet
pub tile_before : (part : Part) (next before now : Cells) (i k : ℕ) (t : Tile) → IsLattice before → IsOwn part before i → AreMadeTo (made_to (tile_of before) i k part) next before now → IsTileFrom t now (left_of now i) (top_of now i) → IsTileFrom t before (left_of before i) (top_of before i)
tile_before part next before now i k t of own made from =
    record {
      cell = λ x y h q.
          let place = tile_column (before.width / 64) i x y (wide (extent before) of.sized).some h q in
          let at = cell_within before i x y of own.within h q in
          from.cell x y h q
          ∙ (ap₂ (λ u v. has now (u + x) (v + y)) (ap (λ w. i % (w / 64) * 64) made.sides.wide) (ap (λ w. i / (w / 64) * 64) made.sides.wide)
          ∙ made.rest (left_of before i + x) (top_of before i + y) at.0 at.1 (omega (arith, place)));
    }

-- one more own tile has the lattice's cells: it is replaced, or it stays
pub tile_made : (part : Part) (cells lattice next now : Cells) (i : ℕ) (t : Tile) → is_size (extent cells) ≡ true → IsPlaced part cells lattice → IsOwn part cells i → AreMadeTo (made_to (tile_of cells) i 64 part) next cells now
    → (let r = tile_rectangle lattice (tile_in part (lattice.width / 64) i) in HasCells t (λ x y. has next (r.x + x) (r.y + y))) → AreMadeTo (made_to (tile_of cells) (i + 1) 64 part) next cells (with_tile now i t)
tile_made part cells lattice next now i t sized placed own so_far made =
    made_next (tile_of cells) i 64 part next cells now (with_tile now i t) so_far (record { wide = refl; high = refl })
    (λ x y h k ne. with_other cells now i t so_far.sides x y h k ne)
    (λ x y h low top e.
    with_here cells now i t so_far.sides x y h (omega (arith, top)) e
    ∙ (made (x % 64) (y % 64) (omega arith) (omega arith) ∙ ap₂ (has next) (column_at part cells lattice i sized placed own x y h e) (row_at part cells lattice i sized placed own x y h e)))

pub tile_stays : (part : Part) (cells lattice next now : Cells) (i : ℕ) → is_size (extent cells) ≡ true → IsPartOf part cells lattice 64 → IsOwn part cells i → AreMadeTo (made_to (tile_of cells) i 64 part) next cells now
    → (let r = tile_rectangle lattice (tile_in part (lattice.width / 64) i) in (x y : ℕ) → x < 64 → y < 64 → has next (r.x + x) (r.y + y) ≡ has lattice (r.x + x) (r.y + y)) → AreMadeTo (made_to (tile_of cells) (i + 1) 64 part) next cells now
tile_stays part cells lattice next now i sized is own so_far same =
    made_next (tile_of cells) i 64 part next cells now now so_far (record { wide = refl; high = refl })
    (λ x y h k ne. refl)
    (λ x y h low top e.
    let c = column_at part cells lattice i sized is.placed own x y h e in
    let r = row_at part cells lattice i sized is.placed own x y h e in
    so_far.rest x y h (omega (arith, top)) (omega (arith, e))
    ∙ (is.rows.row x y (subst (λ w. x < w) is.placed.wide h) low top
    ∙ (sym (ap₂ (has lattice) c r) ∙ (sym (same (x % 64) (y % 64) (omega arith) (omega arith)) ∙ ap₂ (has next) c r))))
