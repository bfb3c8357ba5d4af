use Rattle.block_rule.proofs.Torus.{inside_is_view}
use Rattle.block_rule.proofs.laws.tiles_see_the_torus.Goals as goal

pub returns-clause-inside : goal.returns-clause-inside
returns-clause-inside c = inside_is_view
