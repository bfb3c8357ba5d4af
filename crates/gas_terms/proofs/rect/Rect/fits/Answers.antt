use Rattle.std.proofs.Common.{rules}
use Rattle.gas_terms.proofs.rect.Rect.fits.Goals as goal

pub returns-then-right-width : goal.returns-then-right-width
returns-then-right-width c = search rules
