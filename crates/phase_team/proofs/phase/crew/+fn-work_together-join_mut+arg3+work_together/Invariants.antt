use Rattle.std.proofs.Common.{◌+◌, ◌*◌, length}
use Rattle.phase_team.proofs.phase.crew.+fn-work_together-join_mut+arg3+work_together.Given as goal

abbrev pub decreases-join_mut+arg3 : goal.decreases-join_mut+arg3
decreases-join_mut+arg3 g l = 2 * length l.rest.now + 1

abbrev pub decreases-work_together : goal.decreases-work_together
decreases-work_together g l = 2 * length l.team.now
