use Rattle.std.proofs.Common.{rules}
use Rattle.gas_terms.proofs.rect.Rect.within.Goals as goal

pub returns : goal.returns
returns c = search rules
