-- Tiles are replaced one after another: what a plane is in between.
use Rattle.std.proofs.Common.{◌≡◌, ℕ, ◌+◌, ◌*◌, ◌/◌, ◌%◌, ◌<◌, ◌≤◌, ◌==◌, Bool, true, false, nat_lt, if◌then◌else◌, refl, sym, subst, ◌∙◌, ap₂, arith, inl, inr}
use Rattle.std.proofs.lemmas.Nat.{mul-add-lt, div-mul-add, mod-mul-add, div-add-mod'}
use Rattle.std.proofs.lemmas.Bool.{cases_eq, cases_lt, eq-eqb, ne_eqb}
use Rattle.std.proofs.lemmas.Bool.Decides.{nat_tests}
use Rattle.bit_tile.specs.Tile as tile
use Rattle.bit_tile.specs.declared.Tile.{Tile}
use Rattle.gas_terms.specs.Cells.{Cells, has, cells_where, extent, IsFull, tile_count}
use Rattle.gas_terms.proofs.Cells.{has-cells_where, full-cells_where, same_cells_where, same_cells}
use Rattle.gas_plane.specs.Planes.{IsLattice, tile_of, with_tile}
pub use Rattle.gas_plane.specs.Planes.{swept}
use Rattle.gas_plane.proofs.Places.{IsWholeTiles, wide, high, tile_below}
use Rattle.gas_plane.proofs.Tilings.{choose_true, choose_false}

is_below : (n i : ℕ) → n < i → nat_lt n i ≡ true
is_below n i h = grind (arith, nat_tests)

not_below : (n i : ℕ) → i ≤ n → nat_lt n i ≡ false
not_below n i h = grind (arith, nat_tests)

-- no tile is done, and all tiles are
pub sweep_starts : (cells : Cells) (test : ℕ → ℕ → Bool) (i : ℕ) → IsFull cells → ((x y : ℕ) → x < cells.width → y < cells.height → tile_of cells x y < i → test x y ≡ has cells x y) → cells ≡ swept cells test i
sweep_starts cells test i full same = grind (arith, same_cells, full-cells_where, nat_lt, cases_lt, choose_true, is_below, choose_false, not_below, has-cells_where)

pub sweep_ends : (cells : Cells) (test : ℕ → ℕ → Bool) (i : ℕ) → ((x y : ℕ) → x < cells.width → y < cells.height → i ≤ tile_of cells x y → test x y ≡ has cells x y) → swept cells test i ≡ cells_where cells.width cells.height test
sweep_ends cells test i same = grind (arith, same_cells_where, nat_lt, cases_lt, choose_true, is_below, choose_false, not_below)

-- the place of tile i
abbrev pub left_of : Cells → ℕ → ℕ
left_of cells i = i % (cells.width / 64) * 64

abbrev pub top_of : Cells → ℕ → ℕ
top_of cells i = i / (cells.width / 64) * 64

-- a cell stands in its tile
pub cell_across : (cells : Cells) (i x y : ℕ) → IsWholeTiles cells.width → x < cells.width → tile_of cells x y ≡ i → left_of cells i + x % 64 ≡ x
cell_across cells i x y is p e = grind (arith, mod-mul-add, tile_below)

pub cell_down : (cells : Cells) (i x y : ℕ) → IsWholeTiles cells.width → x < cells.width → tile_of cells x y ≡ i → top_of cells i + y % 64 ≡ y
cell_down cells i x y is p e = grind (arith, div-mul-add, tile_below)

step_cell : (b c : ℕ) (test before : Bool) → (b ≡ c → ⊥) → (if nat_lt b c then test else before) ≡ (if nat_lt b (c + 1) then test else before)
step_cell b c test before other = grind (arith, nat_tests)

-- the next tile is replaced
pub sweep_tile : (cells : Cells) (test : ℕ → ℕ → Bool) (i : ℕ) (t : Tile) → IsLattice cells → ((x y : ℕ) → x < 64 → y < 64 → tile.has t x y ≡ test (left_of cells i + x) (top_of cells i + y)) → with_tile (swept cells test i) i t ≡ swept cells test (i + 1)
sweep_tile cells test i t is made =
    same_cells_where cells.width cells.height (λ x y. if tile_of cells x y == i then tile.has t (x % 64) (y % 64) else has (swept cells test i) x y) (λ x y. if nat_lt (tile_of cells x y) (i + 1) then test x y else has cells x y)
    (λ x y p q.
    elim (cases_eq (tile_of cells x y) i) [
      | inl e ↦
          sym (choose_true _ _ _ _ (eq-eqb (tile_of cells x y) i e) refl)
          ∙ (made (x % 64) (y % 64) (omega arith) (omega arith)
          ∙ (ap₂ test (cell_across cells i x y (wide (extent cells) is.sized) p e) (cell_down cells i x y (wide (extent cells) is.sized) p e)
          ∙ choose_true _ _ _ _ (is_below (tile_of cells x y) (i + 1) (omega arith)) refl))
      | inr ne ↦
          sym (choose_false _ _ _ _ (ne_eqb (tile_of cells x y) i ne) refl)
          ∙ (has-cells_where cells.width cells.height (λ x y. if nat_lt (tile_of cells x y) i then test x y else has cells x y) x y p q
          ∙ step_cell (tile_of cells x y) i (test x y) (has cells x y) ne)
    ])

pub tile_column : (n i x y : ℕ) → 0 < n → x < 64 → y < 64 → (i / n * 64 + y) / 64 * n + (i % n * 64 + x) / 64 ≡ i
tile_column n i x y some p q = rw (div-mul-add (i / n) 64 y q, div-mul-add (i % n) 64 x p) (div-add-mod' i n)

pub sweep_begins : (cells : Cells) (test : ℕ → ℕ → Bool) → IsLattice cells → swept cells test 0 ≡ cells
sweep_begins cells test is = sym (sweep_starts cells test 0 is.full (λ x y p q h. absurd (omega arith)))

pub sweep_is_whole : (cells : Cells) (test : ℕ → ℕ → Bool) → IsLattice cells → swept cells test (tile_count cells) ≡ cells_where cells.width cells.height test
sweep_is_whole cells test is =
    sweep_ends cells test (tile_count cells)
    (λ x y p q h.
    let a = tile_below cells.width x (wide (extent cells) is.sized) p in
    let d = tile_below cells.height y (high (extent cells) is.sized) q in
    let k : tile_of cells x y < tile_count cells = mul-add-lt (y / 64) (cells.width / 64) (x / 64) (cells.height / 64) d a in
    absurd (omega arith))

-- a lattice in which a tile is replaced is one
pub lattice_kept : (cells : Cells) (i : ℕ) (t : Tile) → IsLattice cells → (next : Cells) → next ≡ with_tile cells i t → IsLattice next
lattice_kept cells i t is next e =
    let new : IsLattice (with_tile cells i t) = record { sized = is.sized; full = full-cells_where cells.width cells.height (λ x y. if tile_of cells x y == i then tile.has t (x % 64) (y % 64) else has cells x y) } in
    subst IsLattice (sym e) new
