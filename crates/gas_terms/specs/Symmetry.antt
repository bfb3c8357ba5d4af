use Rattle.std.specs.Prelude.{◌≡◌, ℕ, ◌+◌, ◌-◌, ◌%◌, ◌<◌, ◌≤◌, min, true, ◌⊎◌, ℤ, pos, ◌+ℤ◌, ◌-ℤ◌, []}
use Rattle.std.specs.Fn.{iterate}
use Rattle.gas_terms.specs.Velocity.{parity}
use Rattle.gas_terms.specs.Cells.{Cells, has, cells_where, joined, HasEvenSides, HasSidesOf}
use Rattle.gas_terms.specs.Gas.{Gas, solid, forward, back}

-- The terms of the laws in symmetry_laws. What a laboratory is, does and keeps is said without them.

-- The particles, walls and obstacles of a gas have the same even sides.
pub record IsOnOneTorus (g : Gas) : Type 0 where
  pub sides : HasEvenSides g.particles.width g.particles.height
  pub walls : HasSidesOf g.walls g.particles
  pub obstacles : HasSidesOf g.obstacles g.particles

-- Two gases have the same sides and the same tick.
pub record ShareTorus (g k : Gas) : Type 0 where
  pub tick : g.tick ≡ k.tick
  pub sides : HasSidesOf k.particles g.particles
  pub first : IsOnOneTorus g
  pub second : IsOnOneTorus k

-- Two gases have the same drains and sources.
pub record SharePorts (g k : Gas) : Type 0 where
  pub drains : g.drains ≡ k.drains
  pub sources : g.sources ≡ k.sources

-- A map of gases is a symmetry if it commutes with any number of steps, forward and back.
pub record IsSymmetry (f : Gas → Gas) : Type 0 where
  pub forth : (n : ℕ) (g : Gas) → IsOnOneTorus g → f (iterate forward n g) ≡ iterate forward n (f g)
  pub back : (n : ℕ) (g : Gas) → IsOnOneTorus g → f (iterate back n g) ≡ iterate back n (f g)

-- The same cells without ports at tick 1 - t: parity of place plus tick changes, so each particle has the opposite velocity.
abbrev pub reversed : Gas → Gas
reversed g = record g { tick = pos 1 -ℤ g.tick; drains = []; sources = [] }

-- A gas whose particles, walls and obstacles are mapped. Its tick and its ports stay.
abbrev pub mapped : (Cells → Cells) → Gas → Gas
mapped f g = record g { particles = f g.particles; walls = f g.walls; obstacles = f g.obstacles }

-- The columns, rows and ticks of a translation are all even or all odd, so it takes blocks to blocks.
pub record CarriesBlocks (right down : ℕ) (ticks : ℤ) : Type 0 where
  pub columns : right % 2 ≡ parity ticks
  pub rows : down % 2 ≡ parity ticks

-- the coordinate that a translation by so many cells takes to x
abbrev pub translated_from : ℕ → ℕ → ℕ → ℕ
translated_from size by x = (x + size - by % size) % size

-- the cells translated by so many columns to the right and rows down, over the seams
abbrev pub translated : ℕ → ℕ → Cells → Cells
translated right down cells =
    cells_where cells.width cells.height
    (λ x y. has cells (translated_from cells.width right x) (translated_from cells.height down y))

-- a gas translated by so many columns to the right, rows down and ticks
abbrev pub gas_translated : ℕ → ℕ → ℤ → Gas → Gas
gas_translated right down ticks g =
    record (mapped (translated right down) g) { tick = g.tick +ℤ ticks }

-- the cells with left and right exchanged
abbrev pub mirrored : Cells → Cells
mirrored cells = cells_where cells.width cells.height (λ x y. has cells (cells.width - 1 - x) y)

-- the cells with up and down exchanged
abbrev pub upside_down : Cells → Cells
upside_down cells = cells_where cells.width cells.height (λ x y. has cells x (cells.height - 1 - y))

-- the cells with columns and rows exchanged
abbrev pub transposed : Cells → Cells
transposed cells = cells_where cells.height cells.width (λ x y. has cells y x)

-- how many steps it takes from one coordinate to another on a ring of so many cells, the shorter way
abbrev pub distance : ℕ → ℕ → ℕ → ℕ
distance size x a = min ((x + size - a) % size) ((a + size - x) % size)

-- Two sets have the same cells within n columns and n rows of (x, y).
abbrev pub AgreeWithin : ℕ → ℕ → ℕ → Cells → Cells → Type 0
AgreeWithin n x y some others =
    (a b : ℕ) → a < some.width → b < some.height
    → distance some.width x a ≤ n → distance some.height y b ≤ n
    → has some a b ≡ has others a b

-- Two gases agree where the light cone of (x, y) begins n steps before: on the cells within n columns and n rows.
pub record AgreeOnCone (n x y : ℕ) (g k : Gas) : Type 0 where
  pub particles : AgreeWithin n x y g.particles k.particles
  pub solids : AgreeWithin n x y (solid g) (solid k)

-- Each cell of one set is at least n columns or n rows away from each cell of the other.
abbrev pub AreApart : ℕ → Cells → Cells → Type 0
AreApart n some others =
    (x y a b : ℕ) → x < some.width → y < some.height → a < others.width → b < others.height
    → has some x y ≡ true → has others a b ≡ true
    → (n ≤ distance some.width x a) ⊎ (n ≤ distance some.height y b)

-- the cells that have a particle, a wall or an obstacle
abbrev pub occupied : Gas → Cells
occupied g = joined g.particles (solid g)

-- Two gases never meet in n steps: before each of them, what one occupies is 2 cells away from what the other occupies.
abbrev pub NeverMeet : ℕ → Gas → Gas → Type 0
NeverMeet n g k =
    (m : ℕ) → m < n → AreApart 2 (occupied (iterate forward m g)) (occupied (iterate forward m k))

-- The same for the particles of two gases alone.
abbrev pub ParticlesNeverMeet : ℕ → Gas → Gas → Type 0
ParticlesNeverMeet n g k =
    (m : ℕ) → m < n → AreApart 2 (iterate forward m g).particles (iterate forward m k).particles

-- both gases in one, with the tick and the ports of the first
abbrev pub superposed : Gas → Gas → Gas
superposed g k =
    record g {
      particles = joined g.particles k.particles;
      walls = joined g.walls k.walls;
      obstacles = joined g.obstacles k.obstacles;
    }

-- a gas with other particles
abbrev pub with_particles : Gas → Cells → Gas
with_particles g cells = record g { particles = cells }

-- a gas with more particles
abbrev pub with_more : Gas → Cells → Gas
with_more g cells = with_particles g (joined g.particles cells)
