use Rattle.gas_plane.proofs.Tilings.{lattice_of}
use Rattle.gas_plane.specs.Tiles.{tiles_of}
use Rattle.gas_plane.proofs.Plane.down.Goals as goal

pub returns-clause-lattice : goal.returns-clause-lattice
returns-clause-lattice c = lattice_of (tiles_of c.self.inside.tiles.items) c.self.inside.size c.args.self.now c.self.invariant.0 c.self.view_is
