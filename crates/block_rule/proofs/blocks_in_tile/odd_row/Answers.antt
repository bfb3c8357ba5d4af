use Rattle.std.proofs.Common.{◌≡◌, ◌+◌, ◌-◌, ◌*◌, subst, arith}
use Rattle.tile_border.specs.Ring.{near_tiles}
use Rattle.block_rule.specs.Rows.{ShowsOddRow}
use Rattle.block_rule.proofs.Windows.{inner_shown}
use Rattle.block_rule.proofs.blocks_in_tile.odd_row.Goals as goal

pub returns-in_default : goal.returns-in_default
returns-in_default c = λ window seen.
    let t = c.args.set.now.tile.now in
    let n = c.args.set.now.round in
    let inner = inner_shown window t seen.tile (near_tiles n) seen.round in
    let same : 2 * (c.args.k - 1) + 2 ≡ 2 * c.args.k = omega (arith, c.in_default) in
    subst (λ y. ShowsOddRow window y c.inner_row.result) same (c.inner_row.ensures window inner)
