use Rattle.std.proofs.Common.{rules}
use Rattle.phase_step.proofs.exchanges.listed.ListedAction.after_phase.Goals as goal

pub returns-in-Some : goal.returns-in-Some
returns-in-Some c = search rules
