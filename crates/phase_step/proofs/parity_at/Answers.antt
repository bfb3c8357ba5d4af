use Rattle.std.proofs.Common.{rules}
use Rattle.phase_step.proofs.parity_at.Goals as goal

pub returns-clause-parity : goal.returns-clause-parity
returns-clause-parity c = search rules
