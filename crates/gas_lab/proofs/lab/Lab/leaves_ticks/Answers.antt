use Rattle.std.proofs.Common.{rules}
use Rattle.gas_lab.proofs.lab.Lab.leaves_ticks.Goals as goal

pub returns-in-Step : goal.returns-in-Step
returns-in-Step g c = search rules
