use Rattle.block_rule.proofs.Holding.{both_took}
use Rattle.block_rule.proofs.tile_phase.taken_among.Goals as goal

pub returns : goal.returns
returns c = λ walled obstructed of_walls of_obstacles.
    both_took c.args.parity c.args.tile.now walled obstructed c.args.counted c.taken_by_walls.result c.taken_by_obstacles.result
    (c.taken_by_walls.ensures walled obstructed of_walls of_obstacles) (c.taken_by_obstacles.ensures obstructed of_obstacles)
