use Rattle.std.proofs.Common.{rules}
use Rattle.gas_terms.proofs.command.Command.fits.Goals as goal

pub returns-then-y-height : goal.returns-then-y-height
returns-then-y-height c = search rules
