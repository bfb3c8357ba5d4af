use Rattle.std.proofs.Common.{rules}
use Rattle.phase_step.proofs.exchanges.action_from.ActionFromAction.after_phase.Goals as goal

pub returns : goal.returns
returns g c = search rules
