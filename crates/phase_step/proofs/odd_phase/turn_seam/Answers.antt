use Rattle.std.proofs.Common.{◌≡◌, ◌+◌, ◌-◌, ◌*◌, ◌/◌, ◌<◌, ◌≤◌, ◌∙◌, refl, sym, ap, subst, arith, mul-le-mul}
use Rattle.bit_tile.specs.Tile as tile
use Rattle.gas_terms.specs.Cells.{Cells, has, extent}
use Rattle.gas_plane.proofs.Places.{wide}
use Rattle.block_rule.specs.TileBlocks.{AreGivenBlocks}
use Rattle.phase_step.specs.SolidBlocks.{is_walled_in}
use Rattle.phase_step.specs.OddPhase.{IsRowThere, AreSeamsTurned}
use Rattle.phase_step.proofs.RowTiles.{first_column}
use Rattle.phase_step.proofs.RowWindows.{HasLast, has_last, window, walls_there, given_there, next_cells}
use Rattle.phase_step.proofs.SeamRows.{upper_edge, lower_edge, seen_right, seen_corner, last_edge, last_bottom, last_top, seam_row_begun, own_bottom, own_top, is_seam_edge, coming_in, seam_next, seam_row_turned}
use Rattle.phase_step.specs.Solid.{all_of}
use Rattle.phase_step.proofs.odd_phase.turn_seam.Goals as goal
use Rattle.phase_step.proofs.odd_phase.turn_seam.Goals.{After-turned_seam}

pub overflow_mul-there : goal.overflow_mul-there
overflow_mul-there c =
    let few : c.across-across.result ≤ 64 = let f = (wide (extent c.args.particles.now) c.across-across.ensures.lattice.sized).few in let e = c.across-across.ensures.across in omega (arith, e, f) in
    let low : c.args.place.there ≤ 63 = let t = c.requires.there in omega (arith, t) in
    let most : c.args.place.there * c.across-across.result ≤ 63 * 64 = mul-le-mul low few in
    omega (arith, most)

module _ (c : After-turned_seam) where
  first_are : (tile.has c.tile.result.now 0 63 ≡ has c.args.particles.now 0 (c.args.place.row * 64 + 63)) × (tile.has c.tile-2.result.now 0 0 ≡ has c.args.particles.now 0 (c.args.place.below * 64))
  first_are =
      let old = c.args.particles.now in
      let sized = c.across-across.ensures.lattice.sized in
      let e = c.across-across.ensures.across in
      let below = c.args.place.below in (
        first_column old c.args.place.row 0 _ c.tile.result.now 63 sized c.requires.row c.across-across.ensures.positive (ap (λ a. c.args.place.row * a) e ∙ omega arith) c.tile.ensures (omega arith),
        first_column old below 0 _ c.tile-2.result.now 0 sized c.requires.below c.across-across.ensures.positive (ap (λ a. below * a) e ∙ omega arith) c.tile-2.ensures (omega arith) ∙ ap (has old 0) (let z : below * 64 + 0 ≡ below * 64 = omega arith in z),
      )

  tiles : (lattice : Cells) → IsRowThere c.args.place (all_of c.args.known.solids.now) c.args.particles.now lattice → HasLast c.across-across.result lattice
  tiles lattice is = has_last c.args.place (all_of c.args.known.solids.now) c.args.particles.now lattice c.across-across.result is c.across-across.ensures.across c.across-across.ensures.positive

pub loop-column-init : goal.loop-column-init
loop-column-init c =
    let after = (goal.at.loop-column-init c).After-turned_seam in
    let solid = all_of c.args.known.solids.now in
    let old = c.args.particles.now in
    let place = c.args.place in
    let column = c.across-across.result - 1 in
    let given = c.words_in.result in
    let sized = c.across-across.ensures.lattice.sized in
    let first = c.tile.result.now in
    let under = c.tile-2.result.now in
    record {
      sides = record { wide = refl; high = refl };
      turned = λ lattice is ready.
          let less = (tiles after lattice is).less in
          let last = (tiles after lattice is).last in
          let e = (tiles after lattice is).all in
          let named = given_there place column solid old lattice is less given (subst (λ a. AreGivenBlocks given (is_walled_in solid (place.there * a + column))) e c.words_in.ensures) in
          let shown = c.seam_at-seam.ensures (upper_edge place column solid old lattice is less sized c.requires.row c.requires.below ready) (lower_edge place column solid old lattice is less sized c.requires.row c.requires.below ready)
          (last_edge place column solid old lattice is less sized c.requires.row c.requires.below ready first under (first_are after) last) (window place column solid old lattice is less)
          (last_bottom place column solid old lattice is less sized c.requires.row c.requires.below ready first under (first_are after) last) (last_top place column solid old lattice is less sized c.requires.row c.requires.below ready first under (first_are after) last)
          (seen_right place column solid old lattice is less sized c.requires.row c.requires.below ready) (seen_corner place column solid old lattice is less sized c.requires.row c.requires.below ready) in
          seam_row_begun place column solid old lattice is less sized c.requires.row c.requires.below ready first under (first_are after) last c.turned_seam.result.leaving
          (c.turned_seam.ensures.leaving (window place column solid old lattice is less) (walls_there place column solid old lattice is less) shown named);
    }

pub loop-column-preserved : goal.loop-column-preserved
loop-column-preserved c =
    let after = (goal.at.loop-column-preserved c).After-turned_seam in
    let solid = all_of c.args.known.solids.now in
    let old = c.args.particles.now in
    let place = c.args.place in
    let l = c.loop-column in
    let column = l.column in
    let now = l.particles in
    let given = c.words_in-in-loop-column.result in
    let sized = c.across-across.ensures.lattice.sized in
    let first = c.tile.result.now in
    let under = c.tile-2.result.now in
    let words = c.turned_seam-words in
    let put = c.put_seam-coming.ensures.put in
    record {
      sides = record { wide = put.sides.wide ∙ l.invariant.sides.wide; high = put.sides.high ∙ l.invariant.sides.high };
      turned = λ lattice is ready.
          let e = (tiles after lattice is).all in
          let less : column < lattice.width / 64 = subst (λ a. column < a) e c.loop-column-test.true in
          let so_far = l.invariant.turned lattice is ready in
          let named = given_there place column solid old lattice is less given (subst (λ a. AreGivenBlocks given (is_walled_in solid (place.there * a + column))) e c.words_in-in-loop-column.ensures) in
          let shown = c.seam_at-seam-in-loop-column.ensures (upper_edge place column solid old lattice is less sized c.requires.row c.requires.below ready) (lower_edge place column solid old lattice is less sized c.requires.row c.requires.below ready)
          (is_seam_edge place column solid old lattice is less sized c.requires.row c.requires.below ready first under (first_are after) now l.coming so_far) (window place column solid old lattice is less)
          (own_bottom place column solid old lattice is less sized c.requires.row c.requires.below ready first under (first_are after) now l.coming so_far) (own_top place column solid old lattice is less sized c.requires.row c.requires.below ready first under (first_are after) now l.coming so_far)
          (seen_right place column solid old lattice is less sized c.requires.row c.requires.below ready) (seen_corner place column solid old lattice is less sized c.requires.row c.requires.below ready) in
          subst (AreSeamsTurned place (column + 1) (next_cells place column solid old lattice is less) old c.put_seam-coming.new.particles) (sym c.put_seam-coming.ensures.leaving)
          (seam_next place column solid old lattice is less sized c.requires.row c.requires.below ready first under (first_are after) now l.coming so_far c.put_seam-coming.new.particles words.result.own words.result.leaving put
          (words.ensures.own (window place column solid old lattice is less) (walls_there place column solid old lattice is less) shown named (coming_in place column solid old lattice is less sized c.requires.row c.requires.below ready first under (first_are after) now l.coming so_far))
          (words.ensures.leaving (window place column solid old lattice is less) (walls_there place column solid old lattice is less) shown named));
    }

pub returns-clause-turned : goal.returns-clause-turned
returns-clause-turned c = λ lattice is ready.
    let after = (goal.at.returns-clause-turned c).After-turned_seam in
    let l = c.loop-column in
    let all : l.column ≡ lattice.width / 64 = omega (arith, c.loop-column-test.false, l.auto.column-end) ∙ (tiles after lattice is).all in
    seam_row_turned c.args.place l.column _ c.args.particles.now l.particles l.coming is.sized all (l.invariant.turned lattice is ready)
