use Rattle.std.proofs.Common.{rules}
use Rattle.gas_terms.proofs.size.is_side.Goals as goal

pub returns-then-n-le-MOST_SIDE : goal.returns-then-n-le-MOST_SIDE
returns-then-n-le-MOST_SIDE c = search rules
