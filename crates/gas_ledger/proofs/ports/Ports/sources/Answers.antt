use Rattle.std.proofs.Common.{rules}
use Rattle.gas_ledger.proofs.ports.Ports.sources.Goals as goal

pub returns-clause-sources : goal.returns-clause-sources
returns-clause-sources c = search rules
