use Rattle.gas_terms.proofs.LightCone.{cell_after_steps, agreeing_steps}
use Rattle.gas_terms.proofs.symmetry_laws.nothing_leaves_the_light_cone.Goals as goal

pub returns-clause-cell : goal.returns-clause-cell
returns-clause-cell c = λ n x y g k t p. cell_after_steps n x y g k t.tick p.drains p.sources t.first t.second t.sides

pub returns-clause-area : goal.returns-clause-area
returns-clause-area c = λ n m x y g k t p. agreeing_steps n m x y g k t.tick p.drains p.sources t.first t.second t.sides
