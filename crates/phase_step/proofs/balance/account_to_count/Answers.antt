use Rattle.std.proofs.Common.{rules}
use Rattle.phase_step.proofs.balance.account_to_count.Goals as goal

pub returns : goal.returns
returns c = search rules
