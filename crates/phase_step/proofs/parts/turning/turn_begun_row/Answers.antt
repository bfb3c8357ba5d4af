use Rattle.std.proofs.Common.{◌∙◌}
use Rattle.phase_step.specs.Solid.{all_of}
use Rattle.phase_step.proofs.StripSweeps.{seam_kept, begun_turned}
use Rattle.phase_step.proofs.parts.turning.turn_begun_row.Goals as goal

pub returns-clause-turned : goal.returns-clause-turned
returns-clause-turned c = λ lattice there inner seam.
    let solid = all_of c.args.known.solids.now in
    let place = c.args.place in
    let old = c.args.particles.now in
    let mid = c.turn_inner_row.new.particles in
    let sized = c.shows_lattice.ensures.sized in
    let sides = c.turn_inner_row.ensures.sides in
    let first = c.turn_inner_row.ensures.turned lattice there inner in
    begun_turned place solid old mid c.turn_seam.new.particles lattice sized there.wide c.requires.row sides first
    (c.turn_seam.ensures.turned lattice (record { sized = there.sized; of_solid = there.of_solid; wide = sides.wide ∙ there.wide; low = there.low })
    (seam_kept place solid old mid lattice sized there.wide c.requires.row c.requires.below first seam))
