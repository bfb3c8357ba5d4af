use Rattle.std.proofs.Common.{rules}
use Rattle.phase_step.proofs.exchanges.port_array.PortArray.copy.Goals as goal

pub returns : goal.returns
returns g c = search rules
