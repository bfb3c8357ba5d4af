use Rattle.std.proofs.Common.{arith}
use Rattle.block_rule.specs.Around.{turned_window}
use Rattle.block_rule.proofs.InPlace.{seen_more, carried_more, turned_both, carried_both, others_kept, ends_both}
use Rattle.block_rule.proofs.in_place.turn_first.Goals as goal

pub returns-clause-turned : goal.returns-clause-turned
returns-clause-turned c = λ window solid after are seen named coming.
    let right = c.args.right.now in
    let first = c.turn_eight_among.ensures in
    let second = c.turn_eight_among-2.ensures in
    let third = c.turn_eight_among-3.ensures in
    let two = others_kept 0 8 16 _ _ _ _ _ _ first.others second.others (omega arith) (omega arith) in
    let eight = first.turned window solid after are (λ j h k. seen j h (omega arith)) named (λ j h k. coming j h (omega arith)) in
    let more = second.turned window solid after are (seen_more 0 8 16 _ _ _ _ _ _ first.others second.others window right (λ j h k. seen j (omega arith) (omega arith))) named
    (carried_more 0 8 16 _ _ _ _ _ _ first.others second.others (after 0) (λ j h k. coming j (omega arith) (omega arith))) in
    let last = third.turned window solid after are (seen_more 0 16 24 _ _ _ _ _ _ two third.others window right (λ j h k. seen j (omega arith) k)) named
    (carried_more 0 16 24 _ _ _ _ _ _ two third.others (after 0) (λ j h k. coming j (omega arith) k)) in
    turned_both 0 16 24 _ _ _ _ _ _ two third.others after (turned_both 0 8 16 _ _ _ _ _ _ first.others second.others after eight more) last

pub returns-clause-leaving : goal.returns-clause-leaving
returns-clause-leaving c = λ window solid seen named.
    let test = turned_window 1 window solid in
    let right = c.args.right.now in
    let first = c.turn_eight_among.ensures in
    let second = c.turn_eight_among-2.ensures in
    let third = c.turn_eight_among-3.ensures in
    let two = others_kept 0 8 16 _ _ _ _ _ _ first.others second.others (omega arith) (omega arith) in
    let eight = first.leaving window solid (λ j h k. seen j h (omega arith)) named in
    let more = second.leaving window solid (seen_more 0 8 16 _ _ _ _ _ _ first.others second.others window right (λ j h k. seen j (omega arith) (omega arith))) named in
    let last = third.leaving window solid (seen_more 0 16 24 _ _ _ _ _ _ two third.others window right (λ j h k. seen j (omega arith) k)) named in
    carried_both 0 16 24 _ _ _ _ _ _ two third.others (test 64) (carried_both 0 8 16 _ _ _ _ _ _ first.others second.others (test 64) eight more) last

pub returns-clause-ends : goal.returns-clause-ends
returns-clause-ends c = ends_both _ _ _ (ends_both _ _ _ c.turn_eight_among.ensures.ends c.turn_eight_among-2.ensures.ends) c.turn_eight_among-3.ensures.ends

pub returns-clause-others : goal.returns-clause-others
returns-clause-others c =
    let first = c.turn_eight_among.ensures in
    let second = c.turn_eight_among-2.ensures in
    let third = c.turn_eight_among-3.ensures in
    others_kept 0 16 24 _ _ _ _ _ _ (others_kept 0 8 16 _ _ _ _ _ _ first.others second.others (omega arith) (omega arith)) third.others (omega arith) (omega arith)
