use Rattle.block_rule.proofs.Torus.{tiles_turned}
use Rattle.block_rule.proofs.laws.tiles_turn_as_the_torus.Goals as goal

pub returns : goal.returns
returns c = tiles_turned
