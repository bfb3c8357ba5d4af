use Rattle.std.proofs.Common.{◌∙◌, ◌*◌, ◌/◌, refl, ap, arith}
use Rattle.gas_terms.specs.Gas.{streamed}
use Rattle.gas_plane.proofs.TurnedRooms.{sides_kept}
use Rattle.phase_step.specs.OddPhase.{TurnsEvenTile}
use Rattle.phase_step.specs.Solid.{all_of}
use Rattle.phase_step.proofs.EvenRows.{evens_turned, even_row}
use Rattle.phase_step.proofs.parts.turning.turn_even_row.Goals as goal

pub returns-clause-sides : goal.returns-clause-sides
returns-clause-sides c = let row = c.turn_row.ensures in sides_kept (TurnsEvenTile _) row.first c.args.place.row _ c.args.particles.now _ _ _ row.tiles

pub returns-clause-turned : goal.returns-clause-turned
returns-clause-turned c = λ lattice is ready.
    let solid = all_of c.args.known.solids.now in
    let old = c.args.particles.now in
    let place = c.args.place in
    let sized = c.across.ensures.lattice.sized in
    let row = c.turn_row.ensures in
    let all = ap (λ w. w / 64) is.wide in
    let tiles = evens_turned place solid old lattice is sized c.requires.row ready row.first _ refl (ap (λ a. place.there * a) (c.across.ensures.across ∙ all)) (old.width / 64) c.turn_row.new.self row.tiles (omega (arith, all)) in
    even_row place (old.width / 64) (streamed 0 lattice solid) old c.turn_row.new.self is.sized all tiles
