use Rattle.std.proofs.Common.{◌-◌, ◌/◌, ◌*◌, ◌≤◌, ap, arith, mul-le-mul}
use Rattle.gas_terms.specs.Cells.{extent, tile_count}
use Rattle.gas_plane.proofs.Places.{wide, high}
use Rattle.phase_step.proofs.OwnTiles.{own_counted, own_each, own_inside}
use Rattle.phase_step.proofs.Sides.{tiles_are}
use Rattle.phase_step.proofs.parts.own_tiles.Goals as goal

pub returns-clause-own : goal.returns-clause-own
returns-clause-own c =
    let h = c.requires in
    let part = c.args.part in
    let cells = c.args.cells.now in
    let lattice = h.lattice in
    let across = c.across-across.ensures.across in
    let tiles = tiles_are cells c.size.result c.tiles.result c.size.ensures.extent c.tiles.ensures.tiles in
    let first = ap (λ a. part.margin * a) across in
    let there = ap (λ a. part.first * a) across in
    let count = own_counted part cells lattice c.tiles.result c.across-across.result h.is.placed tiles across in
    let end : c.tiles.result - part.margin * c.across-across.result ≤ tile_count cells = omega (arith, tiles) in
    let inside = own_inside part cells lattice _ _ h.is.placed there count in
    let most : lattice.width / 64 * (lattice.height / 64) ≤ 64 * 64 = mul-le-mul (wide (extent lattice) h.is.sized).few (high (extent lattice) h.is.sized).few in
    record {
      first = first;
      count = count;
      there = there;
      each = λ i low less. own_each part cells _ _ i first count end low less;
      few = omega (arith, inside, most);
      inside = λ lattice sized placed. own_inside part cells lattice _ _ placed there count;
    }
