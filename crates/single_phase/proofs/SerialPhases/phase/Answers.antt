use Rattle.std.proofs.Common.{◌≡◌, ◌+◌, ◌∙◌, ap, ap₂, sym, subst, refl, pos, arith, add-one}
use Rattle.gas_terms.specs.Accounts.{took_plus}
use Rattle.gas_terms.specs.Cells.{joined, tile_count, tile_rectangle}
use Rattle.gas_plane.proofs.PlaneCounts.{few_tiles}
use Rattle.gas_plane.proofs.Sweeps.{sweep_begins}
use Rattle.gas_plane.specs.Planes.{with_tile, IsPosition}
use Rattle.block_rule.specs.Windows.{taken_in}
use Rattle.phase_step.specs.Runs.{tiles_take}
use Rattle.phase_step.specs.Turns.{IsTileAfter}
use Rattle.phase_step.specs.WholeRuns.{every}
use Rattle.phase_step.proofs.Sides.{tiles_as, tiles_are}
use Rattle.single_phase.proofs.PhaseSweeps.{phased, phase_next, phase_ends}
use Rattle.phase_step.proofs.TileFlows.{take_fits, all_take}
use Rattle.single_phase.proofs.SerialPhases.phase.Goals as goal

pub loop-i-init : goal.loop-i-init
loop-i-init c =
    record {
      cells = sym (sweep_begins c.args.out.now (phased c.args.parity c.args.old.now c.args.walls.now c.args.obstacles.now) c.size.ensures.lattice);
      took = refl;
      tile = c.position-at.ensures.tile;
      at = c.position-at.ensures.position;
    }

pub plus-took-requires : goal.plus-took-requires
plus-took-requires c =
    let took = subst (λ i. c.turn_tile_at-here.result ≡ taken_in (pos c.args.parity) c.args.old.now c.args.walls.now c.args.obstacles.now (tile_rectangle c.args.old.now i)) c.loop-i.invariant.tile c.turn_tile_at-here.ensures.took in
    let few = few_tiles c.args.out.now (tile_count c.args.out.now) c.size.ensures.lattice (omega arith) in
    let all = tiles_are c.args.out.now c.size.result c.tiles-i-end.result c.size.ensures.extent c.tiles-i-end.ensures.tiles in
    let fits = take_fits c.args.parity c.args.old.now c.args.walls.now c.args.obstacles.now every 0 c.loop-i.i c.loop-i.i c.loop-i.took c.turn_tile_at-here.result (omega (arith, few, all)) c.loop-i.invariant.took took in
    record { walls = fits.0; obstacles = fits.1 }

pub loop-i-preserved : goal.loop-i-preserved
loop-i-preserved c =
    let took = subst (λ i. c.turn_tile_at-here.result ≡ taken_in (pos c.args.parity) c.args.old.now c.args.walls.now c.args.obstacles.now (tile_rectangle c.args.old.now i)) c.loop-i.invariant.tile c.turn_tile_at-here.ensures.took in
    let after = subst (λ i. IsTileAfter c.args.parity c.args.old.now (joined c.args.walls.now c.args.obstacles.now) i c.turn_tile_at-here.new.out) c.loop-i.invariant.tile c.turn_tile_at-here.ensures.cells in
    let e : c.loop-i.i ≡ 0 + c.loop-i.i = omega arith in
    record {
      cells = phase_next c.args.parity c.args.old.now c.args.walls.now c.args.obstacles.now c.args.out.now c.loop-i.out (with_tile c.loop-i.out c.loop-i.i c.turn_tile_at-here.new.out) c.loop-i.i c.turn_tile_at-here.new.out c.size.ensures.lattice c.requires.out c.loop-i.invariant.cells after refl;
      took =
          c.plus-took.ensures
          ∙ (ap₂ took_plus c.loop-i.invariant.took (took ∙ ap (λ i. taken_in (pos c.args.parity) c.args.old.now c.args.walls.now c.args.obstacles.now (tile_rectangle c.args.old.now i)) e)
          ∙ ap (tiles_take c.args.parity c.args.old.now c.args.walls.now c.args.obstacles.now 0) (sym (add-one c.loop-i.i)));
      tile = c.next-at.ensures.tile ∙ ap (λ i. i + 1) c.loop-i.invariant.tile;
      at = subst (λ n. IsPosition n c.next-at.result) c.across-across.ensures.across c.next-at.ensures.position;
    }

pub returns-clause-out : goal.returns-clause-out
returns-clause-out c =
    phase_ends c.args.parity c.args.old.now c.args.walls.now c.args.obstacles.now c.args.out.now c.loop-i.out c.loop-i.i c.tiles-i-end.result c.size.ensures.lattice c.requires.out
    (tiles_are c.args.out.now c.size.result c.tiles-i-end.result c.size.ensures.extent c.tiles-i-end.ensures.tiles) c.loop-i-test.false c.loop-i.auto.i-end c.loop-i.invariant.cells

pub returns-clause-took : goal.returns-clause-took
returns-clause-took c =
    let all = tiles_are c.args.out.now c.size.result c.tiles-i-end.result c.size.ensures.extent c.tiles-i-end.ensures.tiles in
    let same = tiles_as c.args.out.now c.args.old.now c.requires.out in
    let end : c.loop-i.i ≡ tile_count c.args.old.now = omega (arith, all, same, c.loop-i-test.false) in
    c.loop-i.invariant.took
    ∙ (ap (tiles_take c.args.parity c.args.old.now c.args.walls.now c.args.obstacles.now 0) end
    ∙ all_take c.args.parity c.args.old.now c.args.walls.now c.args.obstacles.now c.requires.parity c.across-across.ensures.lattice.sized)

pub next-at-requires-clause-few : goal.next-at-requires-clause-few
next-at-requires-clause-few c =
    let few = few_tiles c.args.out.now (c.loop-i.i + 1) c.size.ensures.lattice (omega (arith, tiles_are c.args.out.now c.size.result c.tiles-i-end.result c.size.ensures.extent c.tiles-i-end.ensures.tiles)) in
    omega (arith, few, c.loop-i.invariant.tile)

pub next-at-requires-clause-position : goal.next-at-requires-clause-position
next-at-requires-clause-position c = subst (λ n. IsPosition n c.loop-i.at) (sym c.across-across.ensures.across) c.loop-i.invariant.at
