use Rattle.std.proofs.Common.{ℕ, ◌<◌, map, take}
use Rattle.gas_terms.specs.Cells.{tile_count, HasSidesOf}
use Rattle.gas_plane.specs.Planes.{IsLattice}
use Rattle.claim_desk.specs.Draws.{times}
use Rattle.phase_team.specs.Tiles.{IsTurnedAt}
use Rattle.phase_team.proofs.phase.crew.write_out.Given as goal

abbrev pub invariant-loop-place : goal.invariant-loop-place
invariant-loop-place l = record {
  lattice : IsLattice l.out;
  sides : HasSidesOf l.out l.task.old.now;
  kept : (i : ℕ) → i < tile_count l.task.old.now → IsTurnedAt l.task.parity l.task.old.now l.task.walls.now l.task.obstacles.now l.initial.out i → IsTurnedAt l.task.parity l.task.old.now l.task.walls.now l.task.obstacles.now l.out i;
  new : (i : ℕ) → i < tile_count l.task.old.now → 0 < times i (map (λ t. t.place) (take l.place-index l.turned)) → IsTurnedAt l.task.parity l.task.old.now l.task.walls.now l.task.obstacles.now l.out i;
}
