use Rattle.std.proofs.Common.{◌≡◌, ◌*◌, ◌/◌, ◌<◌, ◌∙◌, refl, sym, ap, subst, arith}
use Rattle.gas_terms.specs.Cells.{HasSidesOf}
use Rattle.gas_terms.specs.Gas.{streamed}
use Rattle.gas_plane.proofs.TurnedRooms.{sides_kept}
use Rattle.block_rule.proofs.InPlace.{none_carried}
use Rattle.phase_step.specs.OddPhase.{TurnsInner}
use Rattle.phase_step.specs.Solid.{all_of}
use Rattle.phase_step.proofs.InnerRows.{inners_turned, inner_row}
use Rattle.phase_step.proofs.odd_phase.turn_inner_row.Goals as goal
use Rattle.phase_step.proofs.odd_phase.turn_inner_row.Goals.{After-turn_row}

kept : (c : After-turn_row) → HasSidesOf c.turn_row.new.self c.args.particles.now
kept c = let row = c.turn_row.ensures in sides_kept (TurnsInner _) row.first c.args.place.row _ c.args.particles.now _ _ _ row.tiles

pub put_first-requires-clause-across : goal.put_first-requires-clause-across
put_first-requires-clause-across c = c.across-across.ensures.across ∙ ap (λ w. w / 64) (sym (kept (goal.at.put_first-requires-clause-across c).After-turn_row).wide)

pub put_first-requires-clause-row : goal.put_first-requires-clause-row
put_first-requires-clause-row c = subst (λ h. c.args.place.row < h / 64) (sym (kept (goal.at.put_first-requires-clause-row c).After-turn_row).high) c.requires.row

pub returns-clause-sides : goal.returns-clause-sides
returns-clause-sides c =
    let was = kept (goal.at.returns-clause-sides c).After-turn_row in
    let put = c.put_first.ensures.sides in
    record { wide = put.wide ∙ was.wide; high = put.high ∙ was.high }

pub returns-clause-turned : goal.returns-clause-turned
returns-clause-turned c = λ lattice is ready.
    let solid = all_of c.args.known.solids.now in
    let old = c.args.particles.now in
    let place = c.args.place in
    let sized = c.across-across.ensures.lattice.sized in
    let row = c.turn_row.ensures in
    let all : old.width / 64 ≡ lattice.width / 64 = ap (λ w. w / 64) is.wide in
    let tiles = inners_turned place solid old lattice is sized c.requires.row ready row.first (λ y k l. row.of_first.cell 0 y (omega arith) (omega (arith, l))) _ refl (ap (λ a. place.there * a) (c.across-across.ensures.across ∙ all)) _ none_carried (old.width / 64) c.turn_row.new.carried c.turn_row.new.self row.tiles (omega (arith, all)) in
    inner_row place (old.width / 64) (streamed 1 lattice solid) old c.turn_row.new.self c.put_first.new.particles c.turn_row.new.carried (sym is.wide) sized c.requires.row all tiles c.put_first.ensures
