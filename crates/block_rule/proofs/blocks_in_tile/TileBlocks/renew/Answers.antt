use Rattle.block_rule.specs.Around.{either}
use Rattle.block_rule.proofs.blocks_in_tile.TileBlocks.renew.Goals as goal

pub returns : goal.returns
returns c = λ before some other seen others differ are.
    let even = c.renew_even.ensures before some other seen.tile others.even differ are.even in
    let odd = c.renew_odd.ensures before some other seen others.odd differ are.odd in
    record { even = even; odd = odd; rows = c.renew_rows.ensures before (either some other) differ even odd are.rows }
