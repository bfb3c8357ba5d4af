use Rattle.std.proofs.Common.{rules}
use Rattle.gas_ledger.proofs.ports.Ports.drains.Goals as goal

pub returns-clause-drains : goal.returns-clause-drains
returns-clause-drains c = search rules
