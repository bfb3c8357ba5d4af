use Rattle.std.specs.Prelude.{◌≡◌, ℕ, ◌+◌, ◌-◌, ◌%◌, ◌<◌, ◌≤◌, ◌⊎◌, Bool, ℤ}
use Rattle.gas_terms.specs.Velocity.{parity}
use Rattle.gas_terms.specs.Cells.{Cells, Rectangle, HasEvenSides, HasSidesOf}
use Rattle.gas_terms.specs.Cells as plane
use Rattle.gas_terms.specs.Gas.{takes_for_walls, takes_for_obstacles}
use Rattle.gas_terms.specs.Accounts.{total_in, stopped, twice_momentum}
use Rattle.gas_terms.specs.declared.accounts.Took.{Took}

-- Windows are numbered as a tile with the ring round it: the cell (1, 1) is the torus's cell (x0, y0).

-- the window's 66 by 66 cells are the torus's
pub record IsWindow (window : ℕ → ℕ → Bool) (cells : Cells) (x0 y0 : ℕ) : Type 0 where
  pub cell : (i j : ℕ) → i ≤ 65 → j ≤ 65 → window i j ≡ plane.has cells ((x0 + i + cells.width - 1) % cells.width) ((y0 + j + cells.height - 1) % cells.height)

-- the window's column or row i is reached by the tile's blocks of parity p: at parity 0 they lie in the tile
abbrev pub IsReached : ℕ → ℕ → Type 0
IsReached p i = (1 ≤ i + p) × (i ≤ 64 + p)

-- the window's cells that these blocks reach are the torus's
pub record IsView (p : ℕ) (window : ℕ → ℕ → Bool) (cells : Cells) (x0 y0 : ℕ) : Type 0 where
  pub cell : (i j : ℕ) → IsReached p i → IsReached p j → window i j ≡ plane.has cells ((x0 + i + cells.width - 1) % cells.width) ((y0 + j + cells.height - 1) % cells.height)

-- Particles, walls and obstacles of one torus, and an even place from which 64 by 64 cells lie in it.
pub record IsTilePlace (particles walls obstacles : Cells) (x0 y0 : ℕ) : Type 0 where
  pub even_sides : HasEvenSides particles.width particles.height
  pub of_walls : HasSidesOf walls particles
  pub of_obstacles : HasSidesOf obstacles particles
  pub even_column : x0 % 2 ≡ 0
  pub even_row : y0 % 2 ≡ 0
  pub right : x0 + 64 ≤ particles.width
  pub bottom : y0 + 64 ≤ particles.height

-- column or row n of a torus with so many, or the first one after the last
abbrev pub IsAround : ℕ → ℕ → ℕ → Type 0
IsAround size n there = ((n < size) × (there ≡ n)) ⊎ ((n ≡ size) × (there ≡ 0))

-- these 64 by 64 cells
abbrev pub square : ℕ → ℕ → Rectangle
square x0 y0 = record { x = x0; y = y0; w = 64; h = 64 }

-- what walls and obstacles take of the particles in a rectangle: twice their momentum, for those at walled sites
abbrev pub taken_in : ℤ → Cells → Cells → Cells → Rectangle → Took
taken_in tick particles walls obstacles r =
    record {
      walls = twice_momentum (total_in tick (stopped (parity tick) particles (takes_for_walls walls obstacles)) r);
      obstacles = twice_momentum (total_in tick (stopped (parity tick) particles (takes_for_obstacles walls obstacles)) r);
    }
