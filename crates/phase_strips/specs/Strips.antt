-- Strips: some rows of tiles of a lattice, with a row more above and below.
use Rattle.std.specs.Prelude.{◌≡◌, ℕ, ◌+◌, ◌-◌, ◌*◌, ◌/◌, ◌<◌, ◌≤◌, ◌⊎◌, List, All, get_or, length, map}
use Rattle.gas_terms.specs.Cells.{Cells, Extent, extent, has}
use Rattle.phase_step.specs.Actions.{flow_plus, FlowsFit}
use Rattle.phase_step.specs.Parts.{HasRows}
use Rattle.phase_step.specs.Runs.{parity_at}
use Rattle.phase_step.specs.declared.parts.Part.{Part}
use Rattle.phase_step.specs.declared.sums.flow.Flow.{Flow}
use Rattle.phase_strips.specs.Courses.{Course, lattice_at, rows_give}
use Rattle.phase_strips.specs.declared.runs.strip.OwnRows.{OwnRows}
use Rattle.phase_strips.specs.declared.runs.strip.Strip.{Strip}

-- where a strip stands in a lattice with so many rows of tiles
abbrev pub place_of : ℕ → OwnRows → Part
place_of down own = record { first = own.first; down = down; margin = 1 }

-- there are such rows in a lattice of this size
pub record IsInside (size : Extent) (own : OwnRows) : Type 0 where
  pub some : 0 < own.rows
  pub inside : own.first + own.rows ≤ size.height / 64

-- the strip is one of a lattice of this size
pub record IsOf (size : Extent) (s : Strip) : Type 0 where
  pub inside : IsInside size s.own
  pub wide : s.cells.width ≡ size.width
  pub high : s.cells.height ≡ (s.own.rows + 2) * 64

-- `rows` rows of tiles were copied: those from row `from` on are now the rows from row `to` on. All others are as before.
pub record AreCopied (source : Cells) (from rows : ℕ) (before now : Cells) (to : ℕ) : Type 0 where
  pub cell : (x y : ℕ) → x < source.width → y < rows * 64 → has now x (to * 64 + y)
      ≡ has source x (from * 64 + y)
  pub kept : (x y : ℕ) → x < before.width → y < before.height
      → (y < to * 64) ⊎ ((to + rows) * 64 ≤ y) → has now x y ≡ has before x y

-- row r of tiles is the lattice's
pub record HasTileRow (lattice cells : Cells) (r : ℕ) : Type 0 where
  pub cell : (x y : ℕ) → x < lattice.width → y < 64 → has cells x (r * 64 + y)
      ≡ has lattice x (r * 64 + y)

-- `rows` rows of tiles from row `first` on are the lattice's now, and each row that was so is so still
pub record ArePut (lattice before : Cells) (first rows : ℕ) (now : Cells) : Type 0 where
  pub put : (r : ℕ) → first ≤ r → r < first + rows → HasTileRow lattice now r
  pub kept : (r : ℕ) → r < lattice.height / 64 → HasTileRow lattice before r
      → HasTileRow lattice now r

-- the strip has its own rows of the lattice
abbrev pub HasOwnRows : Cells → Strip → Type 0
HasOwnRows lattice s = HasRows (place_of (lattice.height / 64) s.own) s.cells lattice 64

-- It has the rows that phase k needs: at parity 1 one row of cells more on either side.
abbrev pub IsBefore : Course → ℕ → Strip → Type 0
IsBefore course k s =
    let lattice = lattice_at course k in
    HasRows (place_of (lattice.height / 64) s.own) s.cells lattice (64 - parity_at course.dynamics.parity k)

-- The strip has made k phases: it has its own rows of the lattice, and knows what they came to in them.
pub record HasMade (course : Course) (k : ℕ) (s : Strip) : Type 0 where
  pub of_lattice : IsOf (extent course.start) s
  pub rows : HasOwnRows (lattice_at course k) s
  pub flow : s.flow ≡ rows_give course k s.own.first s.own.rows

-- What phase k comes to in a strip's own rows. It can be added to what the phases before came to.
pub record IsPhaseFlow (course : Course) (k : ℕ) (own : OwnRows) (flow : Flow) : Type 0 where
  pub fits : FlowsFit (rows_give course k own.first own.rows) flow
  pub next : flow_plus (rows_give course k own.first own.rows) flow ≡ rows_give course (k + 1) own.first own.rows

-- After k phases: it has the rows that the next phase needs, and knows what those phases came to in its own.
pub record IsAt (course : Course) (k : ℕ) (s : Strip) : Type 0 where
  pub of_lattice : IsOf (extent course.start) s
  pub before : IsBefore course k s
  pub flow : s.flow ≡ rows_give course k s.own.first s.own.rows

-- so it is with each strip, in some run from these cells on
pub record AreSomewhere (cells : Cells) (strips : List Strip) : Type 0 where
  pub course : Course
  pub phases : ℕ
  pub few : phases ≤ 65535
  pub start : course.start ≡ cells
  pub each : All (IsAt course phases) strips

-- strip k of n begins at this row of tiles, where the one before it ends
abbrev pub row_at : ℕ → ℕ → ℕ → ℕ
row_at down n k = k * down / n

-- the rows of strip k of n
abbrev pub own_at : ℕ → ℕ → ℕ → OwnRows
own_at down n k = record { first = row_at down n k; rows = row_at down n (k + 1) - row_at down n k }

-- these are the strips of a lattice with so many rows of tiles, in order
pub record AreLaid (down : ℕ) (all : List OwnRows) : Type 0 where
  pub some : 0 < length all
  pub few : length all ≤ down
  pub each : (k : ℕ) (d : OwnRows) → k < length all → get_or all k d ≡ own_at down (length all) k

-- these are the strips of a lattice of this size
pub record AreStrips (size : Extent) (strips : List Strip) : Type 0 where
  pub each : All (IsOf size) strips
  pub laid : AreLaid (size.height / 64) (map (λ s. s.own) strips)
