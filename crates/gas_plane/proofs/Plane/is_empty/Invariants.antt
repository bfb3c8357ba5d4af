use Rattle.std.proofs.Common.{ℕ, ◌*◌, ◌/◌, ◌%◌, ◌<◌}
use Rattle.gas_plane.specs.Planes.{IsBare}
use Rattle.gas_plane.proofs.Plane.is_empty.Given as goal

-- tiles that were looked at have no cell
abbrev pub invariant-loop-i : goal.invariant-loop-i
invariant-loop-i l = (k : ℕ) → k < l.i → IsBare l.self (k % (l.self.width / 64) * 64) (k / (l.self.width / 64) * 64)
