use Rattle.std.proofs.Common.{◌%◌, ◌==◌, nat_abs, ap, ◌∙◌, to_z-of_z}
use Rattle.gas_ledger.proofs.ports.is_due.Goals as goal

pub returns : goal.returns
returns c = ap (λ n. n % c.args.period == 0) (c.unsigned_abs.ensures.value ∙ ap nat_abs (to_z-of_z c.ranges.tick))
