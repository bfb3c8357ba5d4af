use Rattle.std.proofs.Common.{rules}
use Rattle.phase_step.proofs.exchanges.still.StillAction.after_phase.Goals as goal

pub returns : goal.returns
returns c = search rules
