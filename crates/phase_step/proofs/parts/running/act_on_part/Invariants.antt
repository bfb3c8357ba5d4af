use Rattle.std.proofs.Common.{◌≡◌, ◌+◌, ◌-◌, ◌*◌, ◌/◌, ◌≤◌, pos}
use Rattle.gas_terms.specs.Cells.{Cells, HasSidesOf}
use Rattle.gas_plane.specs.Planes.{tile_of, IsPosition}
use Rattle.phase_step.specs.Actions.{acted}
use Rattle.phase_step.specs.Counts.{moved_by_counts}
use Rattle.phase_step.specs.Exchanges.{leaves_of}
use Rattle.phase_step.specs.Parts.{made_to, IsPartOf, AreMadeTo}
use Rattle.phase_step.specs.TileRuns.{tiles_move}
use Rattle.phase_step.proofs.CountSums.{AreFew}
use Rattle.phase_step.proofs.parts.running.act_on_part.Given as goal

abbrev pub invariant-loop-i : goal.invariant-loop-i
invariant-loop-i l =
    let old = l.initial.particles in
    record {
      from : l.initial.i ≤ l.i;
      tile : l.next.tile ≡ l.initial.next.tile + (l.i - l.initial.i);
      at : IsPosition (old.width / 64) l.next;
      sides : HasSidesOf l.particles old;
      made : (lattice : Cells) → IsPartOf l.fn.part old lattice 64 → AreMadeTo (made_to (tile_of old) l.i 64 l.fn.part) (acted (leaves_of l.exchange) lattice) old l.particles;
      gained : AreFew (2048 * (l.i - l.initial.i)) l.counts.gained;
      lost : AreFew (2048 * (l.i - l.initial.i)) l.counts.lost;
      moved : (lattice : Cells) → IsPartOf l.fn.part old lattice 64 → moved_by_counts (pos l.parity) l.counts ≡ tiles_move (pos l.parity) lattice (acted (leaves_of l.exchange) lattice) (l.fn.part.first * (lattice.width / 64)) (l.i - l.initial.i);
    }
