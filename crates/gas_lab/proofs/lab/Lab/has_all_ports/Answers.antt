use Rattle.std.proofs.Common.{rules}
use Rattle.gas_lab.proofs.lab.Lab.has_all_ports.Goals as goal

pub returns-in-Source : goal.returns-in-Source
returns-in-Source g c = search rules
