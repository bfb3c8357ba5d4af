-- What is taken of the rows of tiles of a whole lattice, one after another.
use Rattle.std.proofs.Common.{◌≡◌, ℕ, zero, suc, ◌+◌, ◌-◌, ◌*◌, ◌/◌, ◌%◌, ◌<◌, ◌≤◌, pos, sym, ap, ap₂, ◌∙◌, subst, arith, mul-le-mul}
use Rattle.std.proofs.lemmas.Nat.{div-mul-add, mod-mul-add}
use Rattle.gas_terms.specs.Accounts.{pair_plus, took_plus, TakenFits}
use Rattle.gas_terms.specs.Cells.{Cells, HasSidesOf, extent, has, joined, tile_count, tile_rectangle}
use Rattle.gas_terms.specs.Gas.{streamed}
use Rattle.gas_terms.specs.declared.accounts.Took.{Took}
use Rattle.gas_plane.proofs.Places.{wide, high}
use Rattle.gas_plane.specs.Planes.{IsLattice}
use Rattle.block_rule.specs.Accounts.{counted_of}
use Rattle.block_rule.specs.Windows.{taken_in}
use Rattle.block_rule.specs.declared.walled.Counted.{Counted}
use Rattle.phase_step.specs.Amounts.{sum_first}
use Rattle.phase_step.specs.OddPhase.{IsRowOf}
use Rattle.phase_step.specs.Parts.{AreTilesOf}
use Rattle.phase_step.specs.Runs.{takings, tiles_take, row_take, row_takes, both_taken}
use Rattle.phase_step.specs.declared.parts.OwnTiles.{OwnTiles}
use Rattle.phase_step.proofs.Amounts.{sum_both, sum_few, sum_split}
use Rattle.phase_step.proofs.FlowSums.{takings_add, IsTakenOf, counted_fit, none_taken, took_few}
use Rattle.phase_step.proofs.TileFlows.{all_take, tiles_take_few}

-- its tiles
abbrev pub row_tiles : ℕ → ℕ → OwnTiles
row_tiles row across = record { first = row * across; end = row * across + across; there = row * across }

-- they lie in the lattice
pub row_within : (cells : Cells) (row : ℕ) → row < cells.height / 64 → row * (cells.width / 64) + cells.width / 64 ≤ tile_count cells
row_within cells row low =
    let a = cells.width / 64 in
    let same : a ≤ a = omega arith in
    let most : (row + 1) * a ≤ cells.height / 64 * a = mul-le-mul (let l : row + 1 ≤ cells.height / 64 = omega (arith, low) in l) same in
    omega (arith, most)

-- and are those of each lattice that has this row
pub row_tiles_of : (walls cells lattice : Cells) (row : ℕ) → IsLattice lattice → HasSidesOf walls lattice → HasSidesOf cells lattice → row < lattice.height / 64 → IsRowOf row cells lattice → AreTilesOf (row_tiles row (cells.width / 64)) walls cells lattice
row_tiles_of walls cells lattice row is of_walls sides low same =
    let w = cells.width / 64 in
    let a = lattice.width / 64 in
    let across : w ≡ a = ap (λ n. n / 64) sides.wide in
    let inside = row_within lattice row low in
    record {
      is = is;
      sides = of_walls;
      within = subst (λ n. row * n + (row * n + n - row * n) ≤ tile_count lattice) (sym across) (omega (arith, inside));
      cell = λ k x y less h l.
          let here : k < w = omega (arith, less) in
          let there : k < a = omega (arith, here, across) in
          let left = mod-mul-add row w k here in
          let top = div-mul-add row w k here in
          let turn : row * w + k ≡ row * a + k = ap (λ n. row * n + k) across in
          ap₂ (λ c r. has cells (c * 64 + x) (r * 64 + y)) left top
          ∙ (same (k * 64 + x) y (omega (arith, there, h)) l
          ∙ sym (ap₂ (λ c r. has lattice (c * 64 + x) (r * 64 + y)) (ap (λ i. i % a) turn ∙ mod-mul-add row a k there) (ap (λ i. i / a) turn ∙ div-mul-add row a k there)));
    }

-- so many of them
row_few : (p : ℕ) (c w o : Cells) (row : ℕ) → IsTakenOf (16384 * (c.width / 64)) (row_take p c w o row)
row_few p c w o row = tiles_take_few p c w o (row * (c.width / 64)) (c.width / 64)

rows_add : (p : ℕ) (c w o : Cells) (n : ℕ) → sum_first takings (row_take p c w o) n ≡ tiles_take p c w o 0 (n * (c.width / 64))
rows_add p c w o zero = ap (tiles_take p c w o 0) (let e : 0 ≡ 0 * (c.width / 64) = omega arith in e)
rows_add p c w o (suc n) =
    let a = c.width / 64 in
    let taken_there : ℕ → Took = λ i. taken_in (pos p) c w o (tile_rectangle c i) in
    let from : n * a ≡ 0 + n * a = omega arith in
    let next : n * a + a ≡ suc n * a = omega arith in
    ap (λ t. took_plus t (row_take p c w o n)) (rows_add p c w o n)
    ∙ (ap (λ k. took_plus (tiles_take p c w o 0 (n * a)) (sum_first takings (λ i. taken_there (k + i)) a)) from
    ∙ (sym (sum_split takings takings_add taken_there 0 (n * a) a) ∙ ap (tiles_take p c w o 0) next))

module _ (c w o : Cells) (is : IsLattice c) where
  abbrev next : Cells
  next = streamed 0 c (joined w o)

  a_few : c.width / 64 ≤ 64
  a_few = (wide (extent c) is.sized).few

  down_few : c.height / 64 ≤ 64
  down_few = (high (extent c) is.sized).few

  both_few : (row : ℕ) → IsTakenOf (16384 * (c.width / 64) + 16384 * (c.width / 64)) (row_takes c w o row)
  both_few row = took_few (16384 * (c.width / 64)) (16384 * (c.width / 64)) _ _ (row_few 0 c w o row) (row_few 1 next w o row)

  -- a row at both parities
  pub rows_fit : (kept : Counted) (row : ℕ) (even odd : Took) → even ≡ counted_of kept (row_take 0 c w o row) → odd ≡ counted_of kept (row_take 1 next w o row) → TakenFits (pair_plus even.walls odd.walls) × TakenFits (pair_plus even.obstacles odd.obstacles)
  rows_fit kept row even odd e f = counted_fit (16384 * (c.width / 64)) (16384 * (c.width / 64)) kept even odd _ _ e f (row_few 0 c w o row) (row_few 1 next w o row) (omega (arith, a_few))

  -- and one more
  pub next_fits : (kept : Counted) (rows row : ℕ) (took here : Took) → rows ≤ c.height / 64 → took ≡ counted_of kept (sum_first takings (row_takes c w o) rows) → here ≡ counted_of kept (row_takes c w o row)
      → TakenFits (pair_plus took.walls here.walls) × TakenFits (pair_plus took.obstacles here.obstacles)
  next_fits kept rows row took here within e f =
      let k = 16384 * (c.width / 64) + 16384 * (c.width / 64) in
      let most : k * rows ≤ 2097152 * 64 = mul-le-mul (let l : k ≤ 2097152 = omega (arith, a_few) in l) (let l : rows ≤ 64 = omega (arith, within, down_few) in l) in
      counted_fit (k * rows) k kept took here _ _ e f (sum_few takings IsTakenOf (none_taken 0) took_few k (row_takes c w o) both_few rows) (both_few row) (omega (arith, most, a_few))

  -- all rows
  pub rows_take_all : sum_first takings (row_takes c w o) (c.height / 64) ≡ both_taken c w o
  rows_take_all =
      let n = c.height / 64 in
      let all : n * (c.width / 64) ≡ tile_count c = omega arith in
      sum_both takings takings_add (row_take 0 c w o) (row_take 1 next w o) n
      ∙ ap₂ took_plus
      (rows_add 0 c w o n ∙ (ap (tiles_take 0 c w o 0) all ∙ all_take 0 c w o (omega arith) is.sized))
      (rows_add 1 next w o n ∙ (ap (tiles_take 1 next w o 0) all ∙ all_take 1 next w o (omega arith) is.sized))
