use Rattle.std.proofs.Common.{◌≡◌, ◌*◌, ◌/◌, ◌∙◌, ap, sym, subst}
use Rattle.gas_terms.specs.Cells.{Cells, Extent, HasSidesOf, joined}
use Rattle.gas_plane.specs.Planes.{IsLattice}
use Rattle.phase_step.proofs.SolidBlocks.{no_blocks_named, has_none}
use Rattle.phase_step.proofs.Together.{none_joined, lattice_joined}
use Rattle.phase_step.proofs.steps.solids.Solids.empty.Goals as goal

pub invariant_of-result : goal.invariant_of-result
invariant_of-result c =
    let w = c.in_ok-walls.walls in
    let o = c.in_ok-obstacles.obstacles in
    let n = c.tiles-tiles.result in
    let same : o ≡ w = c.in_ok-obstacles.ensures ∙ sym c.in_ok-walls.ensures in
    let is = c.size.ensures.lattice in
    let count = c.tiles-tiles.ensures.tiles ∙ ap (λ (s : Extent). s.width / 64 * (s.height / 64)) c.size.ensures.extent in
    let no_walls = has_none w c.args.size.width c.args.size.height c.in_ok-walls.ensures in
    let no_obstacles = has_none o c.args.size.width c.args.size.height c.in_ok-obstacles.ensures in
    let sides : HasSidesOf o w = record { wide = ap (λ (c : Cells). c.width) same; high = ap (λ (c : Cells). c.height) same } in
    record {
      sides = sides;
      no_walls = λ _. no_walls;
      no_obstacles = λ _. no_obstacles;
      obstructed =
          no_blocks_named o (subst IsLattice (sym same) is) no_obstacles n c.in_ok-of_obstacles.of_obstacles.rows.items c.in_ok-of_obstacles.of_obstacles.blocks.items
          (count ∙ ap (λ (c : Cells). c.width / 64 * (c.height / 64)) (sym same)) c.in_ok-of_obstacles.ensures.0 c.in_ok-of_obstacles.ensures.1;
      walled = no_blocks_named (joined w o) (lattice_joined w o is) (none_joined w o sides no_walls no_obstacles) n c.in_ok-of_all.of_all.rows.items c.in_ok-of_all.of_all.blocks.items count c.in_ok-of_all.ensures.0 c.in_ok-of_all.ensures.1;
    }
