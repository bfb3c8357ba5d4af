use Rattle.std.proofs.Common.{rules}
use Rattle.gas_ledger.proofs.ports.PortsFromAction.acts.Goals as goal

pub returns : goal.returns
returns c = search rules
