use Rattle.std.proofs.Common.{◌≡◌, ◌+◌, ◌-◌, ◌∙◌, ap, pos, arith}
use Rattle.gas_terms.specs.Cells.{Cells, has, tile_rectangle}
use Rattle.gas_terms.specs.Accounts.{pair_plus, TakenFits}
use Rattle.gas_plane.proofs.PlaneCounts.{few_tiles}
use Rattle.block_rule.specs.Accounts.{counted_of}
use Rattle.block_rule.specs.Windows.{taken_in}
use Rattle.phase_step.specs.Parts.{AreTilesOf}
use Rattle.phase_step.proofs.RowRuns.{sides_on}
use Rattle.phase_step.proofs.TileFlows.{take_next, take_fits}
use Rattle.phase_step.proofs.parts.counting.count_tiles.Goals as goal
use Rattle.phase_step.proofs.parts.counting.count_tiles.Goals.{After-count_tile-here}

-- what is taken in the lattice's tile
takes : (c : After-count_tile-here) (lattice : Cells) → (let s = c.args.counting.known.solids.now in AreTilesOf c.args.own s.walls c.args.particles.now lattice
    → c.count_tile-here.result ≡ counted_of c.args.counting.counted (taken_in (pos c.args.parity) lattice s.walls s.obstacles (tile_rectangle lattice (c.args.own.there + (c.loop-i.i - c.args.own.first)))))
takes c lattice are =
    let s = c.args.counting.known.solids.now in
    let own = c.args.own in
    let k = c.loop-i.i - own.first in
    let less = c.loop-i-test.true in
    let low = c.loop-i.invariant.from in
    let here : c.loop-i.i ≡ own.first + k = omega (arith, low) in
    let cells = c.args.particles.now in
    c.count_tile-here.ensures lattice s.walls s.obstacles (own.there + k) are.is (let within = are.within in omega (arith, within, less, low)) are.sides (sides_on _ _ _ s.sides are.sides) c.in_tile-tile_solids.ensures
    (record {
      cell = λ x y h l. c.tile.ensures.cell x y h l
          ∙ (ap (λ i. has cells ((tile_rectangle cells i).x + x) ((tile_rectangle cells i).y + y)) here ∙ are.cell k x y (omega (arith, less, low)) h l);
    })

fits : (c : After-count_tile-here) → TakenFits (pair_plus c.loop-i.took.walls c.count_tile-here.result.walls) × TakenFits (pair_plus c.loop-i.took.obstacles c.count_tile-here.result.obstacles)
fits c =
    let s = c.args.counting.known.solids.now in
    let own = c.args.own in
    let some = c.requires.some in
    let end = c.requires.order.1 in
    let less = c.loop-i-test.true in
    let few = few_tiles c.args.particles.now own.end c.requires.lattice end in
    take_fits c.args.parity some.lattice s.walls s.obstacles c.args.counting.counted own.there (c.loop-i.i - own.first) _ c.loop-i.took c.count_tile-here.result (omega (arith, few, less)) (c.loop-i.invariant.took some.lattice some.are) (takes c some.lattice some.are)

pub plus-took-requires-clause-walls : goal.plus-took-requires-clause-walls
plus-took-requires-clause-walls c = (fits (goal.at.plus-took-requires-clause-walls c).After-count_tile-here).0

pub plus-took-requires-clause-obstacles : goal.plus-took-requires-clause-obstacles
plus-took-requires-clause-obstacles c = (fits (goal.at.plus-took-requires-clause-obstacles c).After-count_tile-here).1

pub loop-i-preserved : goal.loop-i-preserved
loop-i-preserved c =
    let s = c.args.counting.known.solids.now in
    let own = c.args.own in
    let after = (goal.at.loop-i-preserved c).After-count_tile-here in
    record {
      from = let l = c.loop-i.invariant.from in omega (arith, l);
      took = λ lattice are.
          c.plus-took.ensures
          ∙ take_next c.args.parity lattice s.walls s.obstacles c.args.counting.counted own.there own.first c.loop-i.i c.loop-i.took c.count_tile-here.result c.loop-i.invariant.from (c.loop-i.invariant.took lattice are) (takes after lattice are);
    }
