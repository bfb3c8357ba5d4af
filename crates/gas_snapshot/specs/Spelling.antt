-- The one spelling of each gas in each version, field by field. Numbers have their highest byte first.
use Rattle.std.specs.Prelude.{◌≡◌, ℕ, ◌≤◌, ℤ, List, [], ◌∷◌, ◌++◌, length, codes}
use Rattle.std.specs.List.{flat_map, range_with_len}
use Rattle.std.specs.Int.{w16, w64, to_be_bytes, cast_unsigned}
use Rattle.gas_terms.specs.Cells.{Cells, Extent, Rectangle, extent}
use Rattle.gas_terms.specs.Rows.{row_bytes}
use Rattle.gas_terms.specs.Gas.{Gas, Source}
use Rattle.gas_ledger.specs.Gases.{IsSoundGas, no_cells_of_size}
use Rattle.gas_snapshot.specs.declared.version.Version.{Version}
use Rattle.gas_snapshot.specs.declared.version.Version.TheVariants.{One, Two}

-- the name of the version, and a newline
abbrev pub magic : Version → List ℕ
magic One = codes "HPPGAS1" ++ 10 ∷ []
magic Two = codes "HPPGAS2" ++ 10 ∷ []

unfoldable pub sides : Extent → List ℕ
sides size = to_be_bytes w16 size.width ++ to_be_bytes w16 size.height

-- 64 bits, as two's complement
unfoldable pub moment : ℤ → List ℕ
moment tick = to_be_bytes w64 (cast_unsigned w64 tick)

abbrev pub counts : ℕ → ℕ → List ℕ
counts drains sources = drains ∷ sources ∷ []

unfoldable pub drain : Rectangle → List ℕ
drain r = to_be_bytes w16 r.x ++ to_be_bytes w16 r.y ++ to_be_bytes w16 r.w ++ to_be_bytes w16 r.h

unfoldable pub source : Source → List ℕ
source s = drain s.area ++ to_be_bytes w16 s.period

-- all that stands before the cells
unfoldable pub head : Version → Gas → List ℕ
head version g =
    magic version ++ sides (extent g.particles) ++ moment g.tick
    ++ counts (length g.drains) (length g.sources)
    ++ flat_map drain g.drains ++ flat_map source g.sources

-- the rows from the upper one on
unfoldable pub cell_rows : Cells → List ℕ
cell_rows cells = flat_map (row_bytes cells) (range_with_len 0 cells.height)

-- obstacles have a place in the second version alone
unfoldable pub obstacle_rows : Version → Cells → List ℕ
obstacle_rows One cells = []
obstacle_rows Two cells = cell_rows cells

unfoldable pub spelling : Version → Gas → List ℕ
spelling version g =
    head version g ++ cell_rows g.particles ++ cell_rows g.walls ++ obstacle_rows version g.obstacles

-- how wide and how high a lattice of the first version is at most: `MOST_OLD_SIDE`
abbrev pub most_old_side : ℕ
most_old_side = 2048

-- what the first version leaves out
pub record IsOld (g : Gas) : Type 0 where
  pub narrow : g.particles.width ≤ most_old_side
  pub low : g.particles.height ≤ most_old_side
  pub unobstructed : g.obstacles ≡ no_cells_of_size (extent g.particles)

abbrev pub Allows : Version → Gas → Type 0
Allows One g = IsOld g
Allows Two g = Unit {0}

-- a version has a spelling of the gas
pub record HasSpelling (version : Version) (g : Gas) : Type 0 where
  pub sound : IsSoundGas g
  pub allowed : Allows version g

-- the bytes are a snapshot of the gas
pub record Spells (bytes : List ℕ) (g : Gas) : Type 0 where
  pub version : Version
  pub has : HasSpelling version g
  pub parts : bytes ≡ spelling version g
