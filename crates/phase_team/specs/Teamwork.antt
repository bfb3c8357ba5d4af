-- What the workers of a team have done.
use Rattle.std.specs.Prelude.{◌≡◌, ℕ, ◌<◌, ◌≤◌, List, [], All, map, length, pos, true}
use Rattle.std.specs.List.{flat_map, count_by}
use Rattle.claim_desk.specs.Desk.{DeskId, SeatView}
use Rattle.claim_desk.specs.Draws.{times}
use Rattle.bit_tile.specs.declared.Tile.{Tile}
use Rattle.gas_terms.specs.Cells.{Cells, HasSidesOf, joined, tile_count}
use Rattle.gas_terms.specs.Gas.{streamed}
use Rattle.gas_terms.specs.Accounts.{taken}
use Rattle.gas_terms.specs.declared.accounts.Took.{Took}
use Rattle.gas_plane.specs.Planes.{IsLattice}
use Rattle.phase_step.specs.Turns.{IsTileAfter}
use Rattle.phase_team.specs.Tiles.{IsTurnedAt, tile_takes, numbered_tiles_take}
use Rattle.phase_team.specs.declared.phase.shift.Task.{Task}
use Rattle.phase_team.specs.declared.phase.worker.Turned.{Turned}
use Rattle.phase_team.specs.declared.phase.worker.TileWorker.{TileWorker}

-- the worker has drawn nothing
pub record IsFresh (desk : DeskId) (w : TileWorker) : Type 0 where
  pub same_desk : w.seat.desk ≡ desk
  pub no_number : w.seat.numbers ≡ []
  pub no_tile : w.turned.items ≡ []
  pub nothing : w.took ≡ record { walls = record { x = pos 0; y = pos 0 }; obstacles = record { x = pos 0; y = pos 0 } }

-- tile i of the set of cells is as the task leaves it
abbrev pub IsTileTurned : Task → Cells → ℕ → Type 0
IsTileTurned task cells i = IsTurnedAt task.parity task.old.now task.walls.now task.obstacles.now cells i

-- the particles after the task, and what is taken in it
abbrev pub cells_after : Task → Cells
cells_after task = streamed task.parity task.old.now (joined task.walls.now task.obstacles.now)

abbrev pub taken_in_all : Task → Took
taken_in_all task = taken task.parity task.old.now task.walls.now task.obstacles.now

-- what is taken in tile i
abbrev pub take_of : Task → ℕ → Took
take_of task i = tile_takes task.parity task.old.now task.walls.now task.obstacles.now i

-- what is taken in the tiles of these numbers
abbrev pub takes : Task → List ℕ → Took
takes task numbers = numbered_tiles_take task.parity task.old.now task.walls.now task.obstacles.now numbers

-- the tile is tile i as the task leaves it
abbrev pub IsTileAfterTask : Task → ℕ → Tile → Type 0
IsTileAfterTask task i t = IsTileAfter task.parity task.old.now (joined task.walls.now task.obstacles.now) i t

-- the tile stands at one of the numbers below the limit, and is as the task leaves it
abbrev pub IsRight : Task → ℕ → Turned → Type 0
IsRight task limit t = (t.place < limit) × IsTileAfterTask task t.place t.tile

-- a lattice with the sides of the task's
abbrev pub IsRoom : Task → Cells → Type 0
IsRoom task cells = IsLattice cells × HasSidesOf cells task.old.now

-- the tiles of these numbers are turned in the set of cells
abbrev pub AreTurned : Task → List ℕ → Cells → Type 0
AreTurned task numbers cells = (i : ℕ) → i < tile_count task.old.now → 0 < times i numbers → IsTileTurned task cells i

-- each tile that was turned is so still
abbrev pub StayTurned : Task → Cells → Cells → Type 0
StayTurned task before now = (i : ℕ) → i < tile_count task.old.now → IsTileTurned task before i → IsTileTurned task now i

-- the worker has turned each tile that it drew, and no other, and took what is taken in them
pub record HasWorked (task : Task) (desk : DeskId) (w : TileWorker) : Type 0 where
  pub same_desk : w.seat.desk ≡ desk
  pub all_turned : map (λ t. t.place) w.turned.items ≡ w.seat.numbers
  pub right : All (IsRight task desk.limit) w.turned.items
  pub took : w.took ≡ takes task w.seat.numbers
  pub few : length w.seat.numbers ≤ desk.limit

-- the seat has drawn until no number was left
abbrev pub HasDrawnAll : DeskId → SeatView → Type 0
HasDrawnAll desk s = (s.desk ≡ desk) × (s.ended ≡ true) × (length s.numbers ≤ desk.limit)

-- the seats are the desk's, and one of them found no number left
abbrev pub HaveDrawn : DeskId → List SeatView → Type 0
HaveDrawn desk seats = All (λ s. s.desk ≡ desk) seats × (0 < count_by (λ s. s.ended) seats)

-- the numbers that the seats drew
abbrev pub drawn : List SeatView → List ℕ
drawn seats = flat_map (λ s. s.numbers) seats

-- the tiles of these numbers are turned in the set of cells, and the answer is what is taken in them
pub record HasTurned (task : Task) (numbers : List ℕ) (answer : Took) (cells : Cells) : Type 0 where
  pub lattice : IsLattice cells
  pub sides : HasSidesOf cells task.old.now
  pub turned : AreTurned task numbers cells
  pub took : answer ≡ takes task numbers
