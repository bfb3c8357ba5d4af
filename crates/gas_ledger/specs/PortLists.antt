use Rattle.std.specs.Prelude.{◌≡◌, ◌≤◌, ℕ, Bool, true, not, ◌&&◌, ◌||◌, ℤ, List, [], ◌∷◌, ◌++◌, length, map, filter}
use Rattle.std.specs.List.{All, list_any}
use Rattle.bit_tile.specs.declared.Tile.{Tile}
use Rattle.gas_terms.specs.Cells.{Cells, Extent, Rectangle, lies_within, is_inside}
use Rattle.gas_terms.specs.Gas.{Source, most_ports, has_most_ports, is_due, ported}
use Rattle.gas_terms.specs.Commands.{is_period}
use Rattle.gas_terms.specs.declared.command.Command.{Command}
use Rattle.gas_terms.specs.declared.command.Command.TheVariants.{Source as AddSource, Drain as AddDrain}
use Rattle.phase_step.specs.Exchanges.{HasTilesOf}
use Rattle.gas_ledger.specs.declared.port.Port.{Port}
use Rattle.gas_ledger.specs.declared.port.Port.TheVariants.{Drain as DrainAt, Source as SourceAt}

-- The drains and the sources, each kind in the order in which they were added.
pub record PortLists : Type 0 where
  pub drains : List Rectangle
  pub sources : List Source

abbrev pub no_ports : PortLists
no_ports = record { drains = []; sources = [] }

-- the command that adds a port
abbrev pub adding : Port → Command
adding (DrainAt r) = AddDrain r
adding (SourceAt r period) = AddSource r period

-- the ports with one more, at the end of its list
abbrev pub with_port : PortLists → Port → PortLists
with_port ports (DrainAt r) = record ports { drains = ports.drains ++ r ∷ [] }
with_port ports (SourceAt r period) =
    record ports { sources = ports.sources ++ record { area = r; period = period } ∷ [] }

-- whether there are as many ports of its kind as there may be
abbrev pub has_all : PortLists → Port → Bool
has_all ports (DrainAt r) = has_most_ports ports.drains
has_all ports (SourceAt r period) = has_most_ports ports.sources

-- whether its period is one that a source may have
abbrev pub has_period : Port → Bool
has_period (DrainAt r) = true
has_period (SourceAt r period) = is_period period

-- What the type of the ports keeps.
pub record IsPortSet (ports : PortLists) : Type 0 where
  pub few_drains : length ports.drains ≤ most_ports
  pub few_sources : length ports.sources ≤ most_ports
  pub periods : All (λ s. is_period s.period ≡ true) ports.sources

-- the set has each tile in which a port has a cell
pub record AreMetIn (met : Tile) (ports : PortLists) : Type 0 where
  pub drains : HasTilesOf met ports.drains
  pub sources : HasTilesOf met (map (λ s. s.area) ports.sources)

-- Each port is inside a lattice of the size.
pub record LieWithin (size : Extent) (ports : PortLists) : Type 0 where
  pub drains : All (λ r. lies_within size r ≡ true) ports.drains
  pub sources : All (λ s. lies_within size s.area ≡ true) ports.sources

-- the rectangles of the sources that are due
abbrev pub due_areas : ℤ → List Source → List Rectangle
due_areas tick sources = map (λ s. s.area) (filter (is_due tick) sources)

-- what is left of the cell (x, y) when they have acted at the tick, by whether it is held
abbrev pub left_by : PortLists → ℤ → ℕ → ℕ → Bool → Bool
left_by ports tick x y held =
    (held && not (list_any (λ r. is_inside r x y) ports.drains))
    || list_any (λ s. is_due tick s && is_inside s.area x y) ports.sources

-- the cells after the ports have acted at the tick
abbrev pub ported_by : PortLists → ℤ → Cells → Cells
ported_by ports tick cells =
    ported (record {
      tick = tick;
      particles = cells;
      walls = cells;
      obstacles = cells;
      drains = ports.drains;
      sources = ports.sources;
    })
