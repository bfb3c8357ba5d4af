use Rattle.std.proofs.Common.{rules}
use Rattle.gaslab.proofs.serving.tell.Goals as goal

pub returns-then-is_ok : goal.returns-then-is_ok
returns-then-is_ok g c = search rules

pub returns-else-is_ok : goal.returns-else-is_ok
returns-else-is_ok g c = search rules
