use Rattle.std.proofs.Common.{◌≡◌, ℕ, ◌/◌, ◌<◌, All, length}
use Rattle.gas_terms.specs.Cells.{HasSidesOf}
use Rattle.gas_plane.specs.Planes.{IsLattice}
use Rattle.phase_strips.specs.Courses.{Course, lattice_at, rows_give}
use Rattle.phase_strips.specs.Strips.{HasTileRow, IsAt, row_at}
use Rattle.phase_strips.proofs.runs.gather.Given as goal

abbrev pub invariant-loop-strip : goal.invariant-loop-strip
invariant-loop-strip l = record {
  lattice : IsLattice l.cells;
  sides : HasSidesOf l.cells l.initial.cells;
  put : (course : Course) (k : ℕ) → course.start ≡ l.initial.cells → All (IsAt course k) l.strips
      → (r : ℕ) → r < row_at (l.initial.cells.height / 64) (length l.strips) l.strip-index → HasTileRow (lattice_at course k) l.cells r;
  flow : (course : Course) (k : ℕ) → course.start ≡ l.initial.cells → All (IsAt course k) l.strips
      → l.flow ≡ rows_give course k 0 (row_at (l.initial.cells.height / 64) (length l.strips) l.strip-index);
}
