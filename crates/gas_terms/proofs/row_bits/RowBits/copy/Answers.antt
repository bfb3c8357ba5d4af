use Rattle.std.proofs.Common.{rules}
use Rattle.gas_terms.proofs.row_bits.RowBits.copy.Goals as goal

pub returns : goal.returns
returns c = search rules
