-- An action tile by tile, and what comes and goes.
use Rattle.std.proofs.Common.{◌≡◌, ℕ, ◌+◌, ◌/◌, ◌%◌, ◌<◌, Bool, arith}
use Rattle.std.proofs.Math.Nat.{mod-lt}
use Rattle.std.proofs.lemmas.Nat.{row-Below}
use Rattle.gas_terms.specs.Cells.{Cells, has, extent, tile_count, IsFull}
use Rattle.gas_terms.proofs.Cells.{has-cells_where, full-cells_where, same_cells}
use Rattle.gas_plane.specs.Planes.{IsLattice}
use Rattle.gas_plane.proofs.Places.{wide, high, cell_below}
use Rattle.gas_plane.proofs.Sweeps.{left_of, top_of}
use Rattle.phase_step.specs.Actions.{Leaves, IsStill, acted}

-- what is left of each cell of a set
abbrev pub acting : Leaves → Cells → ℕ → ℕ → Bool
acting leaves cells x y = leaves x y (has cells x y)

-- tile i has the cells that it had
abbrev pub Stays : Leaves → Cells → ℕ → Type 0
Stays leaves cells i = (x y : ℕ) → x < 64 → y < 64 → acting leaves cells (left_of cells i + x) (top_of cells i + y) ≡ has cells (left_of cells i + x) (top_of cells i + y)

-- a tile's place among the tiles
place_below : (cells : Cells) (i : ℕ) → IsLattice cells → i < tile_count cells → (i % (cells.width / 64) < cells.width / 64) × (i / (cells.width / 64) < cells.height / 64)
place_below cells i is within = grind (arith, wide, extent, mod-lt, row-Below)

-- a tile's cells stand in the lattice
pub cell_within : (cells : Cells) (i x y : ℕ) → IsLattice cells → i < tile_count cells → x < 64 → y < 64 → (left_of cells i + x < cells.width) × (top_of cells i + y < cells.height)
cell_within cells i x y is within p q = grind (arith, place_below, cell_below, wide, extent, high)

-- what leaves all as it is
pub still_acts : (leaves : Leaves) (cells : Cells) → IsFull cells → IsStill leaves → cells ≡ acted leaves cells
still_acts leaves cells full still = grind (arith, same_cells, acted, full-cells_where, has-cells_where, has)
