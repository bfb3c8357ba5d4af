use Rattle.std.proofs.Common.{◌+◌, ◌/◌, ◌<◌, ◌∙◌, sym, subst, arith}
use Rattle.gas_terms.specs.Cells.{Cells}
use Rattle.gas_plane.specs.Planes.{IsLattice}
use Rattle.phase_step.specs.OddPhase.{AreTurnedTwice, IsRowOf, once_turned, twice_turned}
use Rattle.phase_step.proofs.RowRuns.{sides_on}
use Rattle.phase_step.proofs.TwoPhases.{ready_row, next_turned}
use Rattle.phase_step.specs.Solid.{all_of}
use Rattle.phase_step.proofs.parts.sweeping.turn_twice.Goals.{After-turn_first-took}
use Rattle.phase_step.proofs.parts.sweeping.turn_twice.Goals as goal

-- the row below is as before the phases
row_of : (c : After-turn_first-took) (old : Cells) → IsLattice old → (let solid = all_of c.args.counting.known.solids.now in AreTurnedTwice c.args.row (once_turned solid old) (twice_turned solid old) old c.args.particles.now) → IsRowOf (c.args.row + 1) c.args.particles.now old
row_of c old is so_far =
    let more : c.args.row + 1 < old.height / 64 = subst (λ h. c.args.row + 1 < h / 64) so_far.sides.high c.requires.row.1 in
    ready_row (all_of c.args.counting.known.solids.now) old c.args.row is.sized c.args.particles.now so_far more

pub turn_second-requires-clause-row : goal.turn_second-requires-clause-row
turn_second-requires-clause-row c = let r = subst (λ h. c.args.row + 1 < h / 64) (sym c.turn_first-took.ensures.sides.high) c.requires.row.1 in omega (arith, r)

pub turn_second-requires-clause-solid : goal.turn_second-requires-clause-solid
turn_second-requires-clause-solid c = let s = c.turn_first-took.ensures.sides in record { wide = c.requires.solid.wide ∙ sym s.wide; high = c.requires.solid.high ∙ sym s.high }

pub returns-clause-sides : goal.returns-clause-sides
returns-clause-sides c = sides_on _ _ _ c.turn_second.ensures.sides c.turn_first-took.ensures.sides

pub returns-clause-turned : goal.returns-clause-turned
returns-clause-turned c = λ old is so_far.
    let solid = all_of c.args.counting.known.solids.now in
    let row = c.args.row in
    let now = c.args.particles.now in
    let first = c.turn_first-took in
    let after = (goal.at.returns-clause-turned c).After-turn_first-took in
    c.turn_second.ensures.turned old is
    (next_turned solid old row is.sized now so_far first.new.particles first.ensures.sides (first.ensures.turned old is so_far.sides (row_of after old is so_far)))

pub returns-clause-took : goal.returns-clause-took
returns-clause-took c = λ old is so_far. c.turn_first-took.ensures.took old is so_far.sides (row_of (goal.at.returns-clause-took c).After-turn_first-took old is so_far)
