use Rattle.std.proofs.Common.{rules}
use Rattle.gas_terms.proofs.size.Size.tiles.Goals as goal

pub returns-clause-tiles : goal.returns-clause-tiles
returns-clause-tiles c = search rules
