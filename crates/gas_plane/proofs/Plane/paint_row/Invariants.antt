use Rattle.std.proofs.Common.{◌≡◌}
use Rattle.gas_plane.specs.Planes.{painted_where}
use Rattle.gas_plane.proofs.Painting.{in_row}
use Rattle.gas_plane.proofs.Plane.paint_row.Given as goal

abbrev pub invariant-loop-column : goal.invariant-loop-column
invariant-loop-column l = l.self ≡ painted_where l.initial.self (in_row l.area l.row l.column) l.held
