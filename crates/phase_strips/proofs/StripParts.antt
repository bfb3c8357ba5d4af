-- A strip in a run, as a part of the lattice.
use Rattle.std.proofs.Common.{◌≡◌, ℕ, ◌+◌, ◌-◌, ◌*◌, ◌/◌, ◌%◌, List, All, length, map, sym, ap, ◌∙◌, subst, arith}
use Rattle.std.proofs.lemmas.List.{length-map}
use Rattle.gas_terms.specs.Cells.{Cells, Extent, HasSidesOf, extent, has}
use Rattle.gas_plane.specs.Planes.{IsLattice}
use Rattle.gas_plane.proofs.Places.{high}
use Rattle.phase_step.specs.Parts.{HasRows, IsPartOf}
use Rattle.phase_step.specs.Runs.{parity_at}
use Rattle.phase_step.proofs.RowRuns.{strip_is}
use Rattle.phase_strips.specs.Courses.{Course, lattice_at}
use Rattle.phase_strips.specs.Strips.{place_of, AreLaid, AreStrips, HasOwnRows, IsBefore, IsOf}
use Rattle.phase_strips.specs.declared.runs.strip.OwnRows.{OwnRows}
use Rattle.phase_strips.specs.declared.runs.strip.Strip.{Strip}
use Rattle.phase_strips.proofs.Courses.{course_sides, course_lattice}

pub strip_part : (course : Course) (k m down : ℕ) (s : Strip) → IsLattice course.start → IsOf (extent course.start) s → down ≡ course.start.height / 64
    → HasRows (place_of ((lattice_at course k).height / 64) s.own) s.cells (lattice_at course k) m
    → IsPartOf (record { first = s.own.first; down = down; margin = 1 }) s.cells (lattice_at course k) m
strip_part course k m down s start of down_is rows =
    let lattice = lattice_at course k in
    let is = course_lattice course k start in
    let sides = course_sides course k in
    let tiles = (high (extent lattice) is.sized).tiles in
    let same : lattice.height / 64 ≡ down = ap (λ h. h / 64) sides.high ∙ sym down_is in
    let inside = of.inside.inside in
    strip_is s.own.first down s.own.rows m s.cells lattice is.sized is.full
    (omega (arith, same, tiles)) (of.wide ∙ sym sides.wide) of.high of.inside.some (omega (arith, inside, down_is))
    (λ x y xl low below. rows.row x y xl (omega (arith, low)) (omega (arith, below)) ∙ ap (λ d. has lattice x (((s.own.first + d - 1) * 64 + y) % (d * 64))) same)

-- before a phase of parity 1 it has a row of cells more on either side
pub odd_part : (course : Course) (k down : ℕ) (s : Strip) → IsLattice course.start → IsOf (extent course.start) s → down ≡ course.start.height / 64 → parity_at course.dynamics.parity k ≡ 1 → IsBefore course k s
    → IsPartOf (place_of down s.own) s.cells (lattice_at course k) 63
odd_part course k down s start of down_is odd before =
    strip_part course k 63 down s start of down_is (subst (λ p. HasRows (place_of ((lattice_at course k).height / 64) s.own) s.cells (lattice_at course k) (64 - p)) odd before)

-- the walls have the lattice's sides
pub walls_there : (course : Course) (k : ℕ) (solid : Cells) → HasSidesOf solid course.start → HasSidesOf solid (lattice_at course k)
walls_there course k solid of = let sides = course_sides course k in record { wide = of.wide ∙ sym sides.wide; high = of.high ∙ sym sides.high }

-- what it has before a phase, it has of its own
pub own_rows : (course : Course) (k : ℕ) (s : Strip) → IsBefore course k s → HasOwnRows (lattice_at course k) s
own_rows course k s before = record { row = λ x y xl low high. before.row x y xl (omega (arith, low)) (omega (arith, high)) }

-- They are strips still.
pub still_strips : (size : Extent) (old new list : List Strip) → list ≡ new → AreStrips size old → All (IsOf size) new → map (λ (s : Strip). s.own) new ≡ map (λ (s : Strip). s.own) old → AreStrips size list
still_strips size old new list same_list are of same = subst (AreStrips size) (sym same_list)
    (record {
      each = of;
      laid = subst (λ (all : List OwnRows). AreLaid (size.height / 64) all) (sym same) are.laid;
    })

pub same_count : (new old : List Strip) → map (λ (s : Strip). s.own) new ≡ map (λ (s : Strip). s.own) old → length new ≡ length old
same_count new old same = sym (length-map new (λ (s : Strip). s.own)) ∙ (ap length same ∙ length-map old (λ (s : Strip). s.own))
