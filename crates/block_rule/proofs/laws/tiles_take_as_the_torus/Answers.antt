use Rattle.block_rule.proofs.TorusTook.{tiles_took, taken_of_none}
use Rattle.block_rule.proofs.laws.tiles_take_as_the_torus.Goals as goal

pub returns-clause-taken : goal.returns-clause-taken
returns-clause-taken c = tiles_took

pub returns-clause-nothing : goal.returns-clause-nothing
returns-clause-nothing c = taken_of_none
