use Rattle.std.proofs.Common.{◌≡◌, ℕ, ◌+◌, ◌*◌, ◌/◌, ◌<◌, ◌≤◌, ◌⊎◌}
use Rattle.gas_terms.specs.Cells.{HasSidesOf, has}
use Rattle.gas_plane.specs.Planes.{IsLattice}
use Rattle.phase_strips.proofs.runs.strip.copy_rows.Given as goal

abbrev pub invariant-loop-i : goal.invariant-loop-i
invariant-loop-i l = record {
  lattice : IsLattice l.out;
  sides : HasSidesOf l.out l.initial.out;
  copied : (x y : ℕ) → x < l.source.width → y < l.rows * 64 → y / 64 * (l.source.width / 64) + x / 64 < l.i
      → has l.out x (l.to * 64 + y) ≡ has l.source x (l.from * 64 + y);
  kept : (x y : ℕ) → x < l.initial.out.width → y < l.initial.out.height
      → (y / 64 * (l.source.width / 64) + x / 64 < l.to * (l.source.width / 64)) ⊎ (l.to * (l.source.width / 64) + l.i ≤ y / 64 * (l.source.width / 64) + x / 64)
      → has l.out x y ≡ has l.initial.out x y;
}
