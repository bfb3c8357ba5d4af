use Rattle.phase_step.proofs.steps.solids.Solids.in_tile.Goals as goal

pub returns : goal.returns
returns c =
    let s = c.args.self.now in record { of_all = c.walled_in.ensures; of_obstacles = c.in_tile.ensures s.obstacles c.requires.obstacles s.obstructed }
