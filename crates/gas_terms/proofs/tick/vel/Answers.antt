use Rattle.std.proofs.Common.{rules}
use Rattle.gas_terms.proofs.tick.vel.Goals as goal

pub returns-then-y-p : goal.returns-then-y-p
returns-then-y-p c = search rules
