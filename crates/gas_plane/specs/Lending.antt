use Rattle.std.specs.Prelude.{ℕ}
use Rattle.std.specs.Borrow.{Lends, MutBor, Fml}
use Rattle.bit_tile.specs.declared.Tile.{Tile}
use Rattle.bit_tile.specs.contracts.Tile as tile_contract
use Rattle.gas_terms.specs.Cells.{Cells}
use Rattle.gas_plane.specs.Planes.{with_tile}
use Rattle.gas_plane.specs.contracts.Plane.{the_row}

-- the plane ends with its tile i as it was last written through the result
abbrev pub LendsTile : MutBor Cells → ℕ → MutBor Tile → Fml
LendsTile plane i t = Lends the_row tile_contract.the_row plane t (with_tile plane.now i)
