use Rattle.std.proofs.Common.{arith}
use Rattle.block_rule.proofs.Windows.{even_cells}
use Rattle.block_rule.proofs.collide_even.make_even.Goals as goal

pub returns : goal.returns
returns g c = λ window shows. even_cells (λ _ _. g.R.Rule.cell c.args.rule) window c.args.tile.now c.loop-j.tile shows (λ k h. c.loop-j.invariant.done k (omega arith))
