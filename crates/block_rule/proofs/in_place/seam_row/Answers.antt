use Rattle.block_rule.proofs.InPlace.{seam_shown}
use Rattle.block_rule.proofs.in_place.seam_row.Goals as goal

pub returns : goal.returns
returns c = λ window s. seam_shown window c.args.tile.now c.args.right.now c.args.below.now c.args.below_right.now s
