use Rattle.std.specs.Prelude.{◌≡◌, ℕ, false, true, ℤ, pos}
use Rattle.gas_terms.specs.Cells.{Cells, Extent, Rectangle, cells_where, extent, HasSidesOf}
use Rattle.gas_terms.specs.Gas.{Gas}
use Rattle.gas_terms.specs.Commands.{is_tick}
use Rattle.gas_plane.specs.Planes.{IsLattice}
use Rattle.gas_ledger.specs.PortLists.{PortLists, no_ports, IsPortSet, LieWithin}

abbrev pub ports_of : Gas → PortLists
ports_of g = record { drains = g.drains; sources = g.sources }

-- The three sets of a gas are of one size, and its ports are inside it.
pub record FitTogether (particles walls obstacles : Cells) (ports : PortLists) : Type 0 where
  pub walls_sides : HasSidesOf walls particles
  pub obstacles_sides : HasSidesOf obstacles particles
  pub ports_inside : LieWithin (extent particles) ports

-- a gas of these parts
abbrev pub gas_of : ℤ → Cells → Cells → Cells → PortLists → Gas
gas_of tick particles walls obstacles ports =
    record {
      tick = tick;
      particles = particles;
      walls = walls;
      obstacles = obstacles;
      drains = ports.drains;
      sources = ports.sources;
    }

-- What is so of every gas that a program holds.
pub record IsSoundGas (g : Gas) : Type 0 where
  pub tick : is_tick g.tick ≡ true
  pub particles : IsLattice g.particles
  pub walls : IsLattice g.walls
  pub obstacles : IsLattice g.obstacles
  pub fit : FitTogether g.particles g.walls g.obstacles (ports_of g)
  pub ports : IsPortSet (ports_of g)

abbrev pub no_cells_of_size : Extent → Cells
no_cells_of_size size = cells_where size.width size.height (λ _ _. false)

-- without cells and ports, at tick 0
abbrev pub empty_gas_of_size : Extent → Gas
empty_gas_of_size size = gas_of (pos 0) (no_cells_of_size size) (no_cells_of_size size) (no_cells_of_size size) no_ports

-- row y of a set of cells
abbrev pub row_of : Cells → ℕ → Rectangle
row_of cells y = record { x = 0; y = y; w = cells.width; h = 1 }
