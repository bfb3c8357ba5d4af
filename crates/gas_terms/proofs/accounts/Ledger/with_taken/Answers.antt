use Rattle.std.proofs.Common.{rules}
use Rattle.gas_terms.proofs.accounts.Ledger.with_taken.Goals as goal

pub plus-requires : goal.plus-requires
plus-requires c = search rules
