use Rattle.std.proofs.Common.{◌+◌, ◌*◌, ◌<◌, ◌∙◌, arith, length, length-set, get_or, get_or-set_same}
use Rattle.tile_border.specs.Ring.{near_tiles}
use Rattle.block_rule.proofs.NamedBlocks.{one_named}
use Rattle.block_rule.proofs.Windows.{inner_shown}
use Rattle.single_phase.proofs.OddTiles.{first_stays, row_made, tile_made}
use Rattle.single_phase.proofs.odd_tile.turned_rows.Goals as goal

pub loop-j-preserved : goal.loop-j-preserved
loop-j-preserved c =
    let l = c.loop-j in
    let words = c.args.walled.now in
    record {
      ul = simp length-set l.invariant.ul;
      ur = simp length-set l.invariant.ur;
      ll = simp length-set l.invariant.ll;
      lr = simp length-set l.invariant.lr;
      top_left = first_stays l.out.odd_even l.j _ _ l.invariant.top_left;
      top_right = first_stays l.out.even_even l.j _ _ l.invariant.top_right;
      made = λ window solid shows round are.
          row_made l.j (λ k. get_or words.begin k 0) (λ k. get_or words.end k 0) window solid l.out c.collided_odd-made.result (one_named words solid are) (omega arith) l.invariant.ul l.invariant.ur l.invariant.ll l.invariant.lr
          (c.collided_odd-made.ensures window (2 * l.j + 2) (c.inner_row-row.ensures window (inner_shown window c.args.tile.now shows (near_tiles c.args.near.now) round))) (l.invariant.made window solid shows round are);
    }

pub returns : goal.returns
returns c = λ window solid shows round are.
    let l = c.loop-j in
    let words = c.args.walled.now in
    let top = c.collided_odd-top.ensures window 0 (c.top_row.ensures window shows round) in
    let bottom = c.collided_odd-bottom.ensures window 64 (c.bottom_row.ensures window shows round) in
    let odd_room : 0 < length c.empty-out.result.odd_even = omega arith in
    let even_room : 0 < length c.empty-out.result.even_even = omega arith in
    tile_made l.j (λ k. get_or words.begin k 0) (λ k. get_or words.end k 0) l.out c.collided_odd-bottom.result.upper_left c.collided_odd-bottom.result.upper_right c.collided_odd-top.result.lower_left c.collided_odd-top.result.lower_right window solid (omega (arith, c.loop-j-test.false)) (omega (arith, l.invariant.ul)) (omega (arith, l.invariant.ur))
    (l.invariant.made window solid shows round are) (one_named words solid are)
    (l.invariant.top_left ∙ get_or-set_same c.empty-out.result.odd_even 0 c.collided_odd-top.result.lower_left 0 odd_room)
    (l.invariant.top_right ∙ get_or-set_same c.empty-out.result.even_even 0 c.collided_odd-top.result.lower_right 0 even_room) top.lower bottom.upper
