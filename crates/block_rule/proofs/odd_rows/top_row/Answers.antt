use Rattle.tile_border.specs.Ring.{near_tiles}
use Rattle.block_rule.proofs.Windows.{top_shown}
use Rattle.block_rule.proofs.odd_rows.top_row.Goals as goal

pub returns : goal.returns
returns c = λ window shows round.
    let n = c.args.near.now in
    top_shown window c.args.tile.now shows (near_tiles n) round
