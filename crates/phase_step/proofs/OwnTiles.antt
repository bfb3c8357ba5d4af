-- A part's own tiles: which of the lattice they are.
use Rattle.std.proofs.Common.{◌≡◌, ℕ, ◌+◌, ◌-◌, ◌*◌, ◌/◌, ◌%◌, ◌<◌, ◌≤◌, true, sym, ap, ap₂, ◌∙◌, subst, arith, mul-le-mul}
use Rattle.std.proofs.Math.Nat.{mod-lt, div-lt_iff_lt-mul}
use Rattle.std.proofs.lemmas.Nat.{div-add-mod', div-mul-add, mod-mul-add, mul-add-lt, le-div}
use Rattle.gas_terms.specs.Cells.{Cells, HasSidesOf, has, extent, is_size, tile_count, tile_rectangle}
use Rattle.bit_tile.specs.declared.Tile.{Tile}
use Rattle.gas_plane.specs.Planes.{IsLattice, IsTileFrom}
use Rattle.gas_plane.proofs.Places.{wide, high, cell_below}
use Rattle.gas_plane.proofs.Sweeps.{left_of, top_of}
use Rattle.phase_step.specs.Parts.{start_of, row_in, own_rows, tile_in, AreOwn, AreTilesOf, IsPlaced, IsOwn, IsPartOf}
use Rattle.phase_step.specs.declared.parts.OwnTiles.{OwnTiles}
use Rattle.phase_step.specs.declared.parts.Part.{Part}

-- a row of the torus by its row of tiles
pub row_turns : (a k d y : ℕ) → 0 < d → y < 64 → (a * 64 + (k * 64 + y)) % (d * 64) ≡ (a + k) % d * 64 + y
row_turns a k d y some p = grind (arith, div-add-mod', mod-lt, mod-mul-add)

pub down_some : (part : Part) (cells lattice : Cells) → IsPlaced part cells lattice → is_size (extent lattice) ≡ true → 0 < part.down
down_some part cells lattice placed sized = let h = (high (extent lattice) sized).some in let e = placed.down in omega (arith, h, e)

pub lattice_is : (part : Part) (cells lattice : Cells) (k : ℕ) → IsPartOf part cells lattice k → IsLattice lattice
lattice_is part cells lattice k is = record { sized = is.sized; full = is.full }

-- Fewer rows than these are the lattice's too. Without a margin they are all, whatever the number.
pub rows_left : (part : Part) (cells lattice : Cells) (k m : ℕ) → part.margin * k ≤ part.margin * m → IsPartOf part cells lattice k → IsPartOf part cells lattice m
rows_left part cells lattice k m few is =
    record {
      sized = is.sized;
      full = is.full;
      placed = is.placed;
      rows = record { row = λ x y l low top. is.rows.row x y l (omega (arith, few, low)) (omega (arith, few, top)) };
    }

-- the tile of an own row
pub own_at : (part : Part) (cells : Cells) (row column : ℕ) → column < cells.width / 64 → part.margin ≤ row → row + part.margin < cells.height / 64 → IsOwn part cells (row * (cells.width / 64) + column)
own_at part cells row column c low high =
    let a = cells.width / 64 in
    let same : a ≤ a = omega arith in
    let from : part.margin * a ≤ row * a = mul-le-mul low same in
    let end : (row + 1) * a ≤ (part.margin + own_rows part cells) * a = mul-le-mul (let e : row + 1 ≤ part.margin + own_rows part cells = omega arith in e) same in
    let most : (row + 1) * a ≤ cells.height / 64 * a = mul-le-mul (let e : row + 1 ≤ cells.height / 64 = omega arith in e) same in
    record { within = omega (arith, most, c); low = omega (arith, from); high = omega (arith, end, c) }

-- each tile from the first own one up to the end is one
pub own_each : (part : Part) (cells : Cells) (first end i : ℕ) → first ≡ part.margin * (cells.width / 64) → end - first ≡ own_rows part cells * (cells.width / 64) → end ≤ tile_count cells → first ≤ i → i < end → IsOwn part cells i
own_each part cells first end i e count inside low less =
    record { within = omega (arith, less, inside); low = omega (arith, e, low); high = omega (arith, e, count, low, less) }

-- they are below the end
pub own_past : (part : Part) (cells : Cells) (first end i : ℕ) → first ≡ part.margin * (cells.width / 64) → first ≤ end → end - first ≡ own_rows part cells * (cells.width / 64) → end ≤ i → (j : ℕ) → IsOwn part cells j → j < i
own_past part cells first end i e order count past j own = let h = own.high in omega (arith, e, order, count, past, h)

-- the lattice's row that an own row is
pub own_row : (part : Part) (cells lattice : Cells) (y : ℕ) → is_size (extent cells) ≡ true → IsPlaced part cells lattice → part.margin * 64 ≤ y → y + part.margin * 64 < cells.height → row_in part y ≡ part.first * 64 + (y - part.margin * 64)
own_row part cells lattice y sized placed low top =
    let t = (high (extent cells) sized).tiles in
    let f = placed.inside in
    let s = placed.some in
    let m = placed.margin in
    let turn : start_of part * 64 + y ≡ 1 * (part.down * 64) + (part.first * 64 + (y - part.margin * 64)) = omega (arith, f, s, m, low) in
    ap (λ n. n % (part.down * 64)) turn ∙ mod-mul-add 1 (part.down * 64) (part.first * 64 + (y - part.margin * 64)) (omega (arith, low, top, f, s, t))

-- Where an own tile stands in the lattice.
module _ (part : Part) (cells lattice : Cells) (i : ℕ) (sized : is_size (extent cells) ≡ true) (placed : IsPlaced part cells lattice) (own : IsOwn part cells i) where
  rows : (part.margin ≤ i / (cells.width / 64)) × (i / (cells.width / 64) < part.margin + own_rows part cells)
  rows =
      let a = cells.width / 64 in
      let some = (wide (extent cells) sized).some in
      let h = own.high in (
        le-div part.margin i a some own.low,
        (div-lt_iff_lt-mul some).1 (let e : (part.margin + own_rows part cells) * a ≡ part.margin * a + own_rows part cells * a = omega arith in omega (arith, e, h)),
      )

  across_is : cells.width / 64 ≡ lattice.width / 64
  across_is = ap (λ w. w / 64) placed.wide

  column : i % (cells.width / 64) < cells.width / 64
  column = mod-lt i (wide (extent cells) sized).some

  number : tile_in part (cells.width / 64) i ≡ (part.first + (i / (cells.width / 64) - part.margin)) * (cells.width / 64) + i % (cells.width / 64)
  number =
      let a = cells.width / 64 in
      let q = i / a - part.margin in
      let split : i / a * a + i % a ≡ i = div-add-mod' i a in
      let from : i / a ≡ part.margin + q = let l = rows.0 in omega (arith, l) in
      let spread : (part.margin + q) * a + i % a ≡ i = ap (λ n. n * a + i % a) (sym from) ∙ split in
      let e : (part.margin + q) * a ≡ part.margin * a + q * a = omega arith in
      let f : (part.first + q) * a ≡ part.first * a + q * a = omega arith in
      omega (arith, spread, e, f)

  pub column_there : tile_in part (lattice.width / 64) i % (lattice.width / 64) ≡ i % (cells.width / 64)
  column_there =
      subst (λ b. tile_in part b i % b ≡ i % (cells.width / 64)) across_is
      (ap (λ n. n % (cells.width / 64)) number ∙ mod-mul-add (part.first + (i / (cells.width / 64) - part.margin)) (cells.width / 64) (i % (cells.width / 64)) column)

  pub row_there : tile_in part (lattice.width / 64) i / (lattice.width / 64) ≡ part.first + (i / (cells.width / 64) - part.margin)
  row_there =
      subst (λ b. tile_in part b i / b ≡ part.first + (i / (cells.width / 64) - part.margin)) across_is
      (ap (λ n. n / (cells.width / 64)) number ∙ div-mul-add (part.first + (i / (cells.width / 64) - part.margin)) (cells.width / 64) (i % (cells.width / 64)) column)

  pub own_within_there : tile_in part (lattice.width / 64) i < tile_count lattice
  own_within_there =
      let f = placed.inside in
      let d = placed.down in
      let l = rows.0 in
      let g = rows.1 in
      let low : part.first + (i / (cells.width / 64) - part.margin) < lattice.height / 64 = omega (arith, f, d, l, g) in
      subst (λ b. tile_in part b i < b * (lattice.height / 64)) across_is
      (subst (λ n. n < cells.width / 64 * (lattice.height / 64)) (sym number) (mul-add-lt (part.first + (i / (cells.width / 64) - part.margin)) (cells.width / 64) (i % (cells.width / 64)) (lattice.height / 64) low column))

  -- a cell of it
  pub own_low : (y : ℕ) → y < 64 → (part.margin * 64 ≤ top_of cells i + y) × (top_of cells i + y + part.margin * 64 < cells.height)
  own_low y h = let l = rows.0 in let g = rows.1 in let t = (high (extent cells) sized).tiles in let s = placed.some in (omega (arith, l), omega (arith, l, g, t, s, h))

  pub cell_column : (x : ℕ) → (tile_rectangle lattice (tile_in part (lattice.width / 64) i)).x + x ≡ left_of cells i + x
  cell_column x = ap (λ n. n * 64 + x) column_there

  pub cell_row : (y : ℕ) → y < 64 → (tile_rectangle lattice (tile_in part (lattice.width / 64) i)).y + y ≡ row_in part (top_of cells i + y)
  cell_row y h =
      let at = own_low y h in
      let l = rows.0 in
      let e = own_row part cells lattice (top_of cells i + y) sized placed at.0 at.1 in
      ap (λ n. n * 64 + y) row_there ∙ (let f : (part.first + (i / (cells.width / 64) - part.margin)) * 64 + y ≡ part.first * 64 + (top_of cells i + y - part.margin * 64) = omega (arith, l) in f ∙ sym e)

-- it has the lattice's cells
own_cell : (part : Part) (cells lattice : Cells) (i x y : ℕ) → is_size (extent cells) ≡ true → IsPartOf part cells lattice 64 → IsOwn part cells i → x < 64 → y < 64
    → (let r = tile_rectangle lattice (tile_in part (lattice.width / 64) i) in has cells (left_of cells i + x) (top_of cells i + y) ≡ has lattice (r.x + x) (r.y + y))
own_cell part cells lattice i x y sized is own h k =
    let at = own_low part cells lattice i sized is.placed own y k in
    let across = wide (extent cells) sized in
    let right = cell_below cells.width (i % (cells.width / 64)) x across (mod-lt i across.some) h in
    is.rows.row (left_of cells i + x) (top_of cells i + y) (omega (arith, right, is.placed.wide)) at.0 at.1
    ∙ sym (ap₂ (has lattice) (cell_column part cells lattice i sized is.placed own x) (cell_row part cells lattice i sized is.placed own y k))

pub own_cells : (part : Part) (cells lattice : Cells) (i : ℕ) (t : Tile) → is_size (extent cells) ≡ true → IsPartOf part cells lattice 64 → IsOwn part cells i → IsTileFrom t cells (left_of cells i) (top_of cells i)
    → (let r = tile_rectangle lattice (tile_in part (lattice.width / 64) i) in IsTileFrom t lattice r.x r.y)
own_cells part cells lattice i t sized is own from = record { cell = λ x y h k. from.cell x y h k ∙ own_cell part cells lattice i x y sized is own h k }

-- they are all but the margins'
pub own_counted : (part : Part) (cells lattice : Cells) (tiles across : ℕ) → IsPlaced part cells lattice → tiles ≡ tile_count cells → across ≡ cells.width / 64 → tiles - part.margin * across - part.margin * across ≡ own_rows part cells * (cells.width / 64)
own_counted part cells lattice tiles across placed e f =
    let a = cells.width / 64 in
    let s = placed.some in
    let r = own_rows part cells in
    let rows : cells.height / 64 ≡ r + part.margin + part.margin = omega (arith, s) in
    let all : a * (cells.height / 64) ≡ r * a + part.margin * a + part.margin * a = ap (λ n. a * n) rows ∙ omega arith in
    ap₂ (λ t b. t - part.margin * b - part.margin * b) (e ∙ all) f ∙ omega arith

-- they are so many of the lattice's
pub own_within : (part : Part) (cells lattice : Cells) → IsPlaced part cells lattice → part.first * (lattice.width / 64) + own_rows part cells * (lattice.width / 64) ≤ tile_count lattice
own_within part cells lattice placed =
    let a = lattice.width / 64 in
    let rows : part.first + own_rows part cells ≤ lattice.height / 64 = let g = placed.down in let h = placed.inside in omega (arith, g, h) in
    let same : a ≤ a = omega arith in
    let most : (part.first + own_rows part cells) * a ≤ lattice.height / 64 * a = mul-le-mul rows same in
    let e : (part.first + own_rows part cells) * a ≡ part.first * a + own_rows part cells * a = omega arith in
    let f : lattice.height / 64 * a ≡ a * (lattice.height / 64) = omega arith in
    omega (arith, most, e, f)

pub own_inside : (part : Part) (cells lattice : Cells) (there count : ℕ) → IsPlaced part cells lattice → there ≡ part.first * (cells.width / 64) → count ≡ own_rows part cells * (cells.width / 64) → there + count ≤ tile_count lattice
own_inside part cells lattice there count placed e f =
    let most = own_within part cells lattice placed in
    let g = e ∙ ap (λ w. part.first * (w / 64)) placed.wide in
    let h = f ∙ ap (λ w. own_rows part cells * (w / 64)) placed.wide in
    omega (arith, most, g, h)

-- the number of the lattice's tile, as it is counted on
pub there_is : (part : Part) (cells lattice : Cells) (i first there : ℕ) → IsPlaced part cells lattice → first ≡ part.margin * (cells.width / 64) → there ≡ part.first * (cells.width / 64) → there + (i - first) ≡ tile_in part (lattice.width / 64) i
there_is part cells lattice i first there placed e f = ap₂ (λ m n. n + (i - m)) e f ∙ ap (λ w. tile_in part (w / 64) i) placed.wide

pub own_number : (part : Part) (cells lattice : Cells) (i first : ℕ) → IsPlaced part cells lattice → first ≡ part.margin * (cells.width / 64) → tile_in part (lattice.width / 64) i ≡ part.first * (lattice.width / 64) + (i - first)
own_number part cells lattice i first placed e = ap (λ f. part.first * (lattice.width / 64) + (i - f)) (ap (λ w. part.margin * (w / 64)) (sym placed.wide) ∙ sym e)

-- these tiles together
pub own_tiles_of : (part : Part) (walls cells lattice : Cells) (own : OwnTiles) → is_size (extent cells) ≡ true → AreOwn part cells own → IsPartOf part cells lattice 64 → HasSidesOf walls lattice → AreTilesOf own walls cells lattice
own_tiles_of part walls cells lattice own sized are is sides =
    record {
      is = lattice_is part cells lattice 64 is;
      sides = sides;
      within = are.inside lattice is.sized is.placed;
      cell = λ k x y less h l.
          let i = own.first + k in
          let there : tile_in part (lattice.width / 64) i ≡ own.there + k = sym (there_is part cells lattice i own.first own.there is.placed are.first are.there) ∙ omega arith in
          own_cell part cells lattice i x y sized is (are.each i (omega arith) (omega (arith, less))) h l
          ∙ ap (λ j. has lattice ((tile_rectangle lattice j).x + x) ((tile_rectangle lattice j).y + y)) there;
    }
