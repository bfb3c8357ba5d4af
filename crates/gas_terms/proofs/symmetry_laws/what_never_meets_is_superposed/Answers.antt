use Rattle.gas_terms.proofs.Superposed.{runs_superposed, far_runs_superposed, runs_together, far_runs_together}
use Rattle.gas_terms.proofs.symmetry_laws.what_never_meets_is_superposed.Goals as goal

pub returns-clause-gases : goal.returns-clause-gases
returns-clause-gases c = λ n g k t. runs_superposed n g k t.tick t.first t.second t.sides

pub returns-clause-far_gases : goal.returns-clause-far_gases
returns-clause-far_gases c = λ n g k t. far_runs_superposed n g k t.tick t.first t.second t.sides

pub returns-clause-particles : goal.returns-clause-particles
returns-clause-particles c = runs_together

pub returns-clause-far_particles : goal.returns-clause-far_particles
returns-clause-far_particles c = far_runs_together
