use Rattle.std.proofs.Common.{rules}
use Rattle.phase_step.proofs.exchanges.port_array.PortArray.as_slice.Goals as goal

pub returns-clause-items : goal.returns-clause-items
returns-clause-items g c = search rules
