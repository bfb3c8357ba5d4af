use Rattle.std.proofs.Common.{rules}
use Rattle.gas_ledger.proofs.gas.Gas.edit.Goals as goal

pub add_port-requires-in-Drain-clause-room : goal.add_port-requires-in-Drain-clause-room
add_port-requires-in-Drain-clause-room c = search rules
