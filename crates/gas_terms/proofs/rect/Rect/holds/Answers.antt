use Rattle.std.proofs.Common.{rules}
use Rattle.gas_terms.proofs.rect.Rect.holds.Goals as goal

pub returns-then-self-y : goal.returns-then-self-y
returns-then-self-y c = search rules
