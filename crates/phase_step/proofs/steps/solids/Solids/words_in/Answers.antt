use Rattle.gas_terms.specs.Cells.{joined}
use Rattle.phase_step.proofs.steps.solids.Solids.words_in.Goals as goal

pub returns : goal.returns
returns c = let s = c.args.self.now in c.of_tile.ensures (joined s.walls s.obstacles) c.requires s.walled
