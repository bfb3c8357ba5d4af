use Rattle.std.proofs.Common.{◌≡◌, ℕ, Bool, false, arith}
use Rattle.block_rule.specs.Around.{around, either, taken_in_tile}
use Rattle.block_rule.specs.TileBlocks.{NamesBlocks, walled_by}
use Rattle.block_rule.proofs.BlockNames.{nothing_named}
use Rattle.single_phase.proofs.NamedTiles.{named_alone}
use Rattle.block_rule.proofs.Borders.{shows_tile}
use Rattle.block_rule.proofs.Took.{took_together}
use Rattle.single_phase.proofs.one_tile.turn_tile.Goals as goal
use Rattle.single_phase.proofs.one_tile.turn_tile.Goals.{After-taken_among-took}

-- walls and obstacles with those round them, their words, and what is taken
module _ (c : After-taken_among-took) where
  abbrev w : ℕ → ℕ → Bool
  w = around c.args.walls.now c.args.wall_border.now

  abbrev o : ℕ → ℕ → Bool
  o = around c.args.obstacles.now c.args.obstacle_border.now

  of_obstacles : NamesBlocks c.tile_blocks-rows.result.0 c.tile_blocks-rows.result.1 (walled_by o)
  of_obstacles = named_alone c.tile_blocks-rows.result.0 c.tile_blocks-rows.result.1 o (c.tile_blocks-rows.ensures o (λ _ _. false) (c.window_of.ensures.seen c.args.obstacle_border.now c.neighbors-near_obstacles.ensures) nothing_named)

  walled : NamesBlocks c.tile_blocks-rows-2.result.0 c.tile_blocks-rows-2.result.1 (walled_by (either w o))
  walled = c.tile_blocks-rows-2.ensures w o (c.window_of-2.ensures.seen c.args.wall_border.now c.neighbors-near_walls.ensures) of_obstacles

  took : c.taken_among-took.result ≡ taken_in_tile c.args.parity c.args.tile.now w o
  took = c.taken_among-took.ensures w o walled of_obstacles

pub returns-then-parity-eq0 : goal.returns-then-parity-eq0
returns-then-parity-eq0 c =
    let a = c.args in
    let b = (goal.at.returns-then-parity-eq0 c).After-taken_among-took in
    let e : a.parity ≡ 0 = c.if-parity-eq0.true in
    record {
      cells = rw e (c.turn_tile_even.ensures (around a.tile.now a.border.now) (either (w b) (o b)) (shows_tile a.tile.now a.border.now) (walled b));
      took = took b;
      together = took_together a.parity a.tile.now (w b) (o b) c.taken_among-took.result (took b);
    }

pub returns-else-parity-eq0 : goal.returns-else-parity-eq0
returns-else-parity-eq0 c =
    let a = c.args in
    let b = (goal.at.returns-else-parity-eq0 c).After-taken_among-took in
    let e : a.parity ≡ 1 = omega arith in
    record {
      cells = rw e (c.turn_tile_odd.ensures (around a.tile.now a.border.now) (either (w b) (o b)) (c.window_of-else-parity-eq0.ensures.seen a.border.now c.neighbors-near.ensures) (walled b));
      took = took b;
      together = took_together a.parity a.tile.now (w b) (o b) c.taken_among-took.result (took b);
    }
