use Rattle.std.proofs.Common.{◌∙◌, refl, arith}
use Rattle.gas_terms.specs.Gas.{streamed}
use Rattle.phase_step.proofs.MadeCells.{none_made}
use Rattle.phase_step.proofs.OddParts.{odd_part_turned}
use Rattle.phase_step.specs.OddPhase.{begins_in}
use Rattle.phase_step.specs.Solid.{all_of}
use Rattle.phase_step.proofs.parts.turning.turn_odd_rows.Goals as goal

pub loop-row-init : goal.loop-row-init
loop-row-init c =
    let solid = all_of c.args.known.solids.now in
    record { sides = record { wide = refl; high = refl }; turned = λ lattice of_solid is. none_made (λ x y. begins_in c.args.particles.now y) 0 63 c.args.part (streamed 1 lattice solid) c.args.particles.now (λ x y h from to. omega arith) }

pub loop-row-preserved : goal.loop-row-preserved
loop-row-preserved c =
    let sides = c.turn_odd_row.ensures.sides in
    let so_far = c.loop-row.invariant in
    record {
      sides = record { wide = sides.wide ∙ so_far.sides.wide; high = sides.high ∙ so_far.sides.high };
      turned = λ lattice of_solid is. c.turn_odd_row.ensures.turned c.args.particles.now lattice of_solid is (so_far.turned lattice of_solid is);
    }

pub returns-clause-phase : goal.returns-clause-phase
returns-clause-phase c = λ lattice of_solid is.
    let solid = all_of c.args.known.solids.now in
    let down = c.down.ensures.down in
    let some = is.placed.some in
    let end = c.loop-row-test.false in
    let most = c.loop-row.auto.row-end in
    odd_part_turned c.args.part solid c.args.particles.now lattice c.loop-row.particles c.loop-row.row c.down.ensures.lattice.sized (omega (arith, down, some, end, most)) is (c.loop-row.invariant.turned lattice of_solid is)
