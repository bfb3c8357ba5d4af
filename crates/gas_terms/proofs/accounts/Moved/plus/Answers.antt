use Rattle.std.proofs.Common.{rules}
use Rattle.gas_terms.proofs.accounts.Moved.plus.Goals as goal

pub plus-requires-2 : goal.plus-requires-2
plus-requires-2 c = search rules
