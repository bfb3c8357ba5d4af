use Rattle.std.proofs.Common.{◌/◌, ◌∙◌, refl, arith}
use Rattle.gas_terms.specs.Cells.{extent}
use Rattle.gas_terms.specs.Gas.{streamed}
use Rattle.gas_plane.proofs.Places.{high}
use Rattle.phase_step.proofs.MadeCells.{all_turned, none_made}
use Rattle.phase_step.specs.Solid.{all_of}
use Rattle.phase_step.proofs.parts.turning.turn_even_rows.Goals as goal

pub loop-row-init : goal.loop-row-init
loop-row-init c =
    let solid = all_of c.args.known.solids.now in
    let part = c.args.part in
    record {
      own = omega arith;
      sides = record { wide = refl; high = refl };
      turned = λ lattice of_solid is. none_made (λ x y. y / 64) part.margin 64 part (streamed 0 lattice solid) c.args.particles.now (λ x y h low top. omega (arith, low));
    }

pub loop-row-preserved : goal.loop-row-preserved
loop-row-preserved c =
    let sides = c.turn_even_in.ensures.sides in
    let so_far = c.loop-row.invariant in
    let own = so_far.own in
    record {
      own = omega (arith, own);
      sides = record { wide = sides.wide ∙ so_far.sides.wide; high = sides.high ∙ so_far.sides.high };
      turned = λ lattice of_solid is. c.turn_even_in.ensures.turned c.args.particles.now lattice of_solid is (so_far.turned lattice of_solid is);
    }

pub returns-clause-phase : goal.returns-clause-phase
returns-clause-phase c = λ lattice of_solid is.
    let solid = all_of c.args.known.solids.now in
    let old = c.args.particles.now in
    let down = c.down.ensures.down in
    let some = is.placed.some in
    let end = c.loop-row-test.false in
    let t = (high (extent old) c.down.ensures.lattice.sized).tiles in
    all_turned (λ x y. y / 64) c.loop-row.row 64 0 c.args.part solid old lattice c.loop-row.particles (omega arith) is
    (λ x y h low top. omega (arith, top, end, down, some, t)) (c.loop-row.invariant.turned lattice of_solid is)
