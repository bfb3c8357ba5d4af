-- Parts of a lattice: some of its rows of tiles, one after another round its torus. A strip is one, and so is the whole lattice.
use Rattle.std.specs.Prelude.{◌≡◌, ℕ, ◌+◌, ◌-◌, ◌*◌, ◌/◌, ◌%◌, ◌<◌, ◌≤◌, true, pos}
use Rattle.gas_terms.specs.Cells.{Cells, HasSidesOf, has, extent, is_size, tile_count, tile_rectangle, IsFull}
use Rattle.gas_terms.specs.Gas.{streamed}
use Rattle.gas_terms.specs.declared.accounts.Took.{Took}
use Rattle.gas_terms.specs.declared.accounts.Moved.{Moved}
use Rattle.gas_plane.specs.Planes.{IsLattice}
use Rattle.block_rule.specs.declared.walled.Counted.{Counted}
use Rattle.phase_step.specs.Runs.{tiles_take}
use Rattle.phase_step.specs.Balance.{flow_counted}
use Rattle.phase_step.specs.WholeRuns.{Dynamics, after_all}
use Rattle.phase_step.specs.TileRuns.{tiles_flow, tiles_move}
use Rattle.phase_step.specs.declared.parts.OwnTiles.{OwnTiles}
use Rattle.phase_step.specs.declared.parts.Part.{Part}
use Rattle.phase_step.specs.declared.sums.flow.Flow.{Flow}

-- the row of tiles of the lattice's torus at which the part begins
abbrev pub start_of : Part → ℕ
start_of part = part.first + part.down - part.margin

-- the row of the lattice that the part's row y is
abbrev pub row_in : Part → ℕ → ℕ
row_in part y = (start_of part * 64 + y) % (part.down * 64)

-- the tile of the lattice that its own tile i is, where a row has so many tiles
abbrev pub tile_in : Part → ℕ → ℕ → ℕ
tile_in part across i = part.first * across + (i - part.margin * across)

-- how many rows of tiles are its own
abbrev pub own_rows : Part → Cells → ℕ
own_rows part cells = cells.height / 64 - 2 * part.margin

-- The cells are those of such a part of a lattice. Without a margin it has all rows, so that its torus is the lattice's.
pub record IsPlaced (part : Part) (cells lattice : Cells) : Type 0 where
  pub wide : cells.width ≡ lattice.width
  pub down : lattice.height ≡ part.down * 64
  pub some : 2 * part.margin < cells.height / 64
  pub inside : part.first + own_rows part cells ≤ part.down
  pub margin : part.margin ≤ 1
  pub all : part.margin ≡ 0 → cells.height ≡ lattice.height

-- The part's rows are the lattice's, but for k rows at either end if it has margins. With k = 64
-- these are its own rows. With k = 63 they are its own, and one row of cells more above and below.
pub record HasRows (part : Part) (cells lattice : Cells) (k : ℕ) : Type 0 where
  pub row : (x y : ℕ) → x < lattice.width → part.margin * k ≤ y
      → y + part.margin * k < cells.height → has cells x y ≡ has lattice x (row_in part y)

-- tile i is one of its own
pub record IsOwn (part : Part) (cells : Cells) (i : ℕ) : Type 0 where
  pub within : i < tile_count cells
  pub low : part.margin * (cells.width / 64) ≤ i
  pub high : i < part.margin * (cells.width / 64) + own_rows part cells * (cells.width / 64)

-- A part's own tiles are those from `first` up to `end`. Those of any lattice that the part is of
-- begin with tile `there`.
pub record AreOwn (part : Part) (cells : Cells) (own : OwnTiles) : Type 0 where
  pub first : own.first ≡ part.margin * (cells.width / 64)
  pub count : own.end - own.first ≡ own_rows part cells * (cells.width / 64)
  pub there : own.there ≡ part.first * (cells.width / 64)
  pub each : (i : ℕ) → own.first ≤ i → i < own.end → IsOwn part cells i
  pub few : own.there + (own.end - own.first) ≤ 4096
  pub inside : (lattice : Cells) → is_size (extent lattice) ≡ true → IsPlaced part cells lattice
      → own.there + (own.end - own.first) ≤ tile_count lattice

-- These tiles of the cells are the lattice's from tile `there` on, and the lattice has walls like these.
pub record AreTilesOf (own : OwnTiles) (walls cells lattice : Cells) : Type 0 where
  pub is : IsLattice lattice
  pub sides : HasSidesOf walls lattice
  pub within : own.there + (own.end - own.first) ≤ tile_count lattice
  pub cell : (k x y : ℕ) → k < own.end - own.first → x < 64 → y < 64 →
      let here = tile_rectangle cells (own.first + k) in
      let there = tile_rectangle lattice (own.there + k) in
      has cells (here.x + x) (here.y + y) ≡ has lattice (there.x + x) (there.y + y)

-- and so with some lattice
pub record AreTilesOfSome (own : OwnTiles) (walls cells : Cells) : Type 0 where
  pub lattice : Cells
  pub are : AreTilesOf own walls cells lattice

-- what n phases come to in the part's own tiles
abbrev pub own_flow : Part → Dynamics → Cells → Cells → ℕ → Flow
own_flow part d cells lattice n =
    let across = lattice.width / 64 in tiles_flow d lattice (part.first * across) (own_rows part cells * across) n

-- what is taken in them in a phase of parity p, and what a change at a tick of that parity moves in them
abbrev pub own_take : Part → ℕ → Cells → Cells → Cells → Cells → Took
own_take part p cells lattice walls obstacles =
    let across = lattice.width / 64 in tiles_take p lattice walls obstacles (part.first * across) (own_rows part cells * across)

abbrev pub own_moves : Part → ℕ → Cells → Cells → Cells → Moved
own_moves part p cells old new = let across = old.width / 64 in tiles_move (pos p) old new (part.first * across) (own_rows part cells * across)

-- the whole lattice as a part of itself
abbrev pub whole_part : Cells → Part
whole_part cells = record { first = 0; down = cells.height / 64; margin = 0 }

-- The cells are those of a part of a lattice, but for k rows at either end if it has margins.
pub record IsPartOf (part : Part) (cells lattice : Cells) (k : ℕ) : Type 0 where
  pub sized : is_size (extent lattice) ≡ true
  pub full : IsFull lattice
  pub placed : IsPlaced part cells lattice
  pub rows : HasRows part cells lattice k

-- the same with some lattice
pub record IsPartOfSome (part : Part) (cells : Cells) (k : ℕ) : Type 0 where
  pub lattice : Cells
  pub is : IsPartOf part cells lattice k

-- and with one that has walls like these
pub record IsReady (part : Part) (solid cells : Cells) (k : ℕ) : Type 0 where
  pub lattice : Cells
  pub is : IsPartOf part cells lattice k
  pub sides : HasSidesOf solid lattice

-- A phase of parity p turned a part's own tiles. At parity 1 it needs one row of cells more above
-- and below than its own.
abbrev pub IsTurned : Part → ℕ → Cells → Cells → Cells → Type 0
IsTurned part p solid old new = (lattice : Cells) → HasSidesOf solid lattice → IsPartOf part old lattice (64 - p)
    → IsPartOf part new (streamed p lattice solid) 64

-- A run of n phases can be made of a part: its rows are those of some lattice, and with margins it
-- makes one phase at most.
pub record CanRunPart (part : Part) (d : Dynamics) (n : ℕ) (particles : Cells) : Type 0 where
  pub parity : d.parity < 2
  pub ready : IsReady part d.walls particles (64 - d.parity)
  pub few : part.margin * n ≤ 1

-- A run of a part: how its lattice goes on, in how many phases, and which accounts are kept.
pub record PartRun : Type 0 where
  pub part : Part
  pub counted : Counted
  pub dynamics : Dynamics
  pub phases : ℕ

abbrev pub part_run : Part → Counted → Dynamics → ℕ → PartRun
part_run part counted d n = record { part = part; counted = counted; dynamics = d; phases = n }

-- What such a run is: the part's own rows are the lattice's after it, and the flow is that of its
-- own tiles.
pub record HasRun (r : PartRun) (old lattice new : Cells) (answer : Flow) : Type 0 where
  pub is : IsPartOf r.part new (after_all r.dynamics lattice r.phases) 64
  pub flow : answer ≡ flow_counted r.counted (own_flow r.part r.dynamics old lattice r.phases)

-- So it is with each lattice that the part may be of. The particles keep their size.
pub record HasRunPart (r : PartRun) (old new : Cells) (answer : Flow) : Type 0 where
  pub run : (lattice : Cells) → HasSidesOf r.dynamics.walls lattice
      → IsPartOf r.part old lattice (64 - r.dynamics.parity) → HasRun r old lattice new answer
  pub sides : HasSidesOf new old

-- How far a part's cells are made: in this order, those before this place. If the part has margins,
-- so many rows at either end are not.
pub record PartProgress : Type 0 where
  pub order : ℕ → ℕ → ℕ
  pub place : ℕ
  pub edge : ℕ
  pub part : Part

abbrev pub made_to : (ℕ → ℕ → ℕ) → ℕ → ℕ → Part → PartProgress
made_to order place edge part = record { order = order; place = place; edge = edge; part = part }

-- Cells that are made are the next lattice's. All from the place on are as before.
pub record AreMadeTo (to : PartProgress) (next old now : Cells) : Type 0 where
  pub sides : HasSidesOf now old
  pub made : (x y : ℕ) → x < old.width → to.part.margin * to.edge ≤ y
      → y + to.part.margin * to.edge < old.height → to.order x y < to.place
      → has now x y ≡ has next x (row_in to.part y)
  pub rest : (x y : ℕ) → x < old.width → y < old.height → to.place ≤ to.order x y
      → has now x y ≡ has old x y
