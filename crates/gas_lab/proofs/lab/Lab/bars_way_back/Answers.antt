use Rattle.std.proofs.Common.{rules}
use Rattle.gas_lab.proofs.lab.Lab.bars_way_back.Goals as goal

pub returns-in-Back : goal.returns-in-Back
returns-in-Back g c = search rules
