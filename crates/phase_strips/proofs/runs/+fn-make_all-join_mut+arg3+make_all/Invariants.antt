use Rattle.std.proofs.Common.{◌+◌, ◌*◌, length}
use Rattle.phase_strips.proofs.runs.+fn-make_all-join_mut+arg3+make_all.Given as goal

abbrev pub decreases-join_mut+arg3 : goal.decreases-join_mut+arg3
decreases-join_mut+arg3 g l = 2 * length l.rest.now + 1

abbrev pub decreases-make_all : goal.decreases-make_all
decreases-make_all g l = 2 * length l.strips.now
