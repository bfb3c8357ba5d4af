use Rattle.std.proofs.Common.{◌≡◌}
use Rattle.gas_plane.specs.Planes.{painted_where}
use Rattle.gas_plane.proofs.Painting.{in_rows}
use Rattle.gas_plane.proofs.Plane.paint.Given as goal

abbrev pub invariant-loop-row : goal.invariant-loop-row
invariant-loop-row l = l.self ≡ painted_where l.initial.self (in_rows l.area l.row) l.held
