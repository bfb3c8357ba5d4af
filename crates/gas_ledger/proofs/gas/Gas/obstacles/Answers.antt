use Rattle.std.proofs.Common.{rules}
use Rattle.gas_ledger.proofs.gas.Gas.obstacles.Goals as goal

pub returns : goal.returns
returns c = search rules
