use Rattle.std.proofs.Common.{inr}
use Rattle.phase_step.proofs.SolidBlocks.{is_so}
use Rattle.phase_step.proofs.steps.solids.may_have_some.Goals as goal

pub returns-then-had : goal.returns-then-had
returns-then-had c = λ e. inr (c.is_empty.ensures.0 (is_so c.is_empty.result e))
