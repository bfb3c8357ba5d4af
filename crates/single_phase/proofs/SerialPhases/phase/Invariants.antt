use Rattle.std.proofs.Common.{◌≡◌, ◌/◌}
use Rattle.gas_plane.specs.Planes.{swept, IsPosition}
use Rattle.phase_step.specs.Runs.{tiles_take}
use Rattle.single_phase.proofs.PhaseSweeps.{phased}
use Rattle.single_phase.proofs.SerialPhases.phase.Given as goal

abbrev pub invariant-loop-i : goal.invariant-loop-i
invariant-loop-i l = record {
  cells : l.out ≡ swept l.initial.out (phased l.parity l.old l.walls l.obstacles) l.i;
  took : l.took ≡ tiles_take l.parity l.old l.walls l.obstacles 0 l.i;
  tile : l.at.tile ≡ l.i;
  at : IsPosition (l.old.width / 64) l.at;
}
