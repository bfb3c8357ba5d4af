use Rattle.std.proofs.Common.{rules}
use Rattle.gas_terms.proofs.accounts.Ledger.with_given_back.Goals as goal

pub returns : goal.returns
returns c = search rules
