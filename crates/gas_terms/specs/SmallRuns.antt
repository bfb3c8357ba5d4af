use Rattle.std.specs.Prelude.{ℕ, ◌-◌, ◌^◌, false, List, [], ◌∷◌, map, ℤ, pos, negsuc}
use Rattle.gas_terms.specs.Cells.{Cells, Rectangle, cells_where, whole}
use Rattle.gas_terms.specs.Gas.{Gas}
use Rattle.gas_terms.specs.Accounts.{total_in}
use Rattle.gas_terms.specs.BookedGas.{BookedGas, opened, book_all}
use Rattle.gas_terms.specs.Laboratory.{Laboratory, opening, run}
use Rattle.gas_terms.specs.declared.command.Command.{Command}
use Rattle.gas_terms.specs.declared.command.Command.TheVariants.{Put, Erase, Row, Wall, Block, Unwall, Source, Drain, Step, Back}
use Rattle.gas_terms.specs.declared.accounts.Sums.{Sums}
use Rattle.gas_terms.specs.declared.accounts.Pair.{Pair}

-- a small torus to try the definitions on
abbrev pub no_cells : Cells
no_cells = cells_where 4 4 (λ x y. false)

abbrev pub cell : ℕ → ℕ → Rectangle
cell x y = record { x = x; y = y; w = 1; h = 1 }

abbrev pub empty_gas : ℤ → Gas
empty_gas tick =
    record {
      tick = tick;
      particles = no_cells;
      walls = no_cells;
      obstacles = no_cells;
      drains = [];
      sources = [];
    }

abbrev pub after : List Command → BookedGas
after commands = book_all (opened (empty_gas (pos 0))) commands

abbrev pub sums : ℤ → ℤ → ℤ → Sums
sums count px py = record { count = count; px = px; py = py }

abbrev pub pair : ℤ → ℤ → Pair
pair x y = record { x = x; y = y }

-- what a gas has in a cell
abbrev pub at_cell : BookedGas → ℕ → ℕ → Sums
at_cell b x y = total_in b.gas.tick b.gas.particles (cell x y)

-- particles on their way
abbrev pub one_step : BookedGas
one_step = after (Put (cell 0 0) ∷ Step 1 ∷ [])

abbrev pub one_back : BookedGas
one_back = after (Put (cell 0 0) ∷ Back 1 ∷ [])

abbrev pub collision : BookedGas
collision = after (Put (cell 0 0) ∷ Put (cell 1 1) ∷ Step 1 ∷ [])

-- three particles pass
abbrev pub three : BookedGas
three = after (Put (record { x = 0; y = 0; w = 2; h = 1 }) ∷ Put (cell 1 1) ∷ Step 1 ∷ [])

abbrev pub bounce : BookedGas
bounce = after (Put (cell 0 0) ∷ Wall (cell 1 1) ∷ Step 1 ∷ [])

abbrev pub on_a_wall : BookedGas
on_a_wall = after (Put (cell 1 1) ∷ Put (cell 1 1) ∷ Wall (cell 1 1) ∷ Step 2 ∷ [])

abbrev pub drained : BookedGas
drained = after (Put (cell 0 0) ∷ Drain (cell 1 1) ∷ Step 1 ∷ [])

-- a drain that is added leaves what is there until the next tick
abbrev pub drain_on_a_particle : BookedGas
drain_on_a_particle = after (Put (cell 0 0) ∷ Drain (cell 0 0) ∷ [])

abbrev pub two_drains : BookedGas
two_drains =
    after (Put (cell 0 0) ∷ Put (cell 2 2) ∷ Drain (cell 1 1) ∷ Drain (cell 3 3) ∷ Step 1 ∷ [])

abbrev pub drained_and_filled : BookedGas
drained_and_filled = after (Put (cell 0 0) ∷ Drain (cell 1 1) ∷ Source (cell 1 1) 1 ∷ Step 1 ∷ [])

-- an obstacle in the way
abbrev pub obstructed : BookedGas
obstructed = after (Put (cell 0 0) ∷ Block (cell 1 1) ∷ Step 1 ∷ [])

-- a wall and an obstacle at one site, then the wall alone
abbrev pub wall_and_obstacle : BookedGas
wall_and_obstacle = after (Put (cell 0 0) ∷ Wall (cell 1 0) ∷ Block (cell 1 1) ∷ Step 1 ∷ [])

abbrev pub wall_alone : BookedGas
wall_alone =
    after (Put (cell 0 0) ∷ Wall (cell 1 0) ∷ Block (cell 1 1) ∷ Step 1
    ∷ Back 1 ∷ Unwall (cell 1 1) ∷ Step 1 ∷ [])

-- a source acts at the ticks that its period divides, after the drains
abbrev pub sourced : BookedGas
sourced = after (Source (cell 2 2) 2 ∷ Step 3 ∷ [])

abbrev pub drained_and_sourced : BookedGas
drained_and_sourced = after (Source (cell 2 2) 2 ∷ Drain (cell 2 2) ∷ Step 3 ∷ [])

-- a site across the seam
abbrev pub seam : BookedGas
seam = after (Step 1 ∷ Put (cell 3 3) ∷ Step 1 ∷ [])

-- two particles and a wall, before any step
abbrev pub walled_pair : BookedGas
walled_pair = after (Put (cell 0 0) ∷ Put (cell 2 2) ∷ Wall (cell 1 1) ∷ [])

abbrev pub wall_removed : BookedGas
wall_removed =
    after (Put (cell 0 0) ∷ Wall (record { x = 1; y = 1; w = 2; h = 2 })
    ∷ Unwall (record { x = 1; y = 1; w = 2; h = 2 }) ∷ Step 1 ∷ [])

-- a particle shut in by walls, there and back
abbrev pub shut_in : BookedGas
shut_in = after (Wall (whole no_cells) ∷ Put (cell 1 1) ∷ Step 3 ∷ [])

abbrev pub let_go : BookedGas
let_go = after (Wall (whole no_cells) ∷ Put (cell 1 1) ∷ Step 3 ∷ Back 3 ∷ [])

-- rows are replaced, the left cell by the highest bit: one particle, then two, then the first is taken away
abbrev pub rows : BookedGas
rows = after (Row 0 (128 ∷ []) ∷ Row 0 (192 ∷ []) ∷ Erase (cell 0 0) ∷ [])

-- a small laboratory, after commands of one seat
abbrev pub lab_after : ℤ → ℕ → List Command → Laboratory
lab_after tick cap commands =
    run (opening (empty_gas tick) cap) (map (λ c. record { seat = 0; command = c }) commands)

-- two particles after a step, at (1, 1) and (3, 3)
abbrev pub two_in_a_lab : Laboratory
two_in_a_lab = lab_after (pos 0) 9 (Put (cell 0 0) ∷ Put (cell 2 2) ∷ Step 1 ∷ [])

-- a source and a drain of one cell
abbrev pub a_source : Command
a_source = Source (cell 0 0) 1

abbrev pub a_drain : Command
a_drain = Drain (cell 0 0)

-- the first tick of all, and the last
abbrev pub first_tick : ℤ
first_tick = negsuc (2 ^ 40 - 1)

abbrev pub last_tick : ℤ
last_tick = pos (2 ^ 40)
