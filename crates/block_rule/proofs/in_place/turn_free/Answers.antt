use Rattle.std.proofs.Common.{arith, inl, inr}
use Rattle.block_rule.specs.Around.{turned_window}
use Rattle.block_rule.proofs.InPlace.{rows_seen, cells_turned, all_turned, all_carried, first_carried, ends_kept, top_same, bottom_same}
use Rattle.block_rule.proofs.in_place.turn_free.Goals as goal

pub returns-clause-turned : goal.returns-clause-turned
returns-clause-turned c = λ window solid after are seen named carried.
    let shown = rows_seen window c.args.tile.now c.args.right.now seen in
    cells_turned c.write_eight.new.out after
    (all_turned after c.turn_rows.new.tile c.write_eight.new.out c.turned_on-last.result
    (c.turn_rows.ensures.turned window solid after are (shown 0 24 (omega arith)) (λ j h k. named j (omega arith) (omega arith)) (first_carried c.args.carry.now _ (after 0) carried c.turned_on-last.ensures.others))
    (c.turned_on-last.ensures.turned window solid after are (shown 23 31 (omega arith)) (λ j h k. named j (omega arith) (omega arith)) carried.last) c.write_eight.ensures.rows c.write_eight.ensures.upper_rest c.write_eight.ensures.lower_rest)

pub returns-clause-leaving : goal.returns-clause-leaving
returns-clause-leaving c = λ window solid seen named.
    let shown = rows_seen window c.args.tile.now c.args.right.now seen in
    all_carried _ _ (turned_window 1 window solid 64) (c.turn_rows.ensures.leaving window solid (shown 0 24 (omega arith)) (λ j h k. named j (omega arith) (omega arith))) (c.turned_on-last.ensures.leaving window solid (shown 23 31 (omega arith)) (λ j h k. named j (omega arith) (omega arith))) c.turn_rows.ensures.others.carried

pub returns-clause-top : goal.returns-clause-top
returns-clause-top c = top_same c.args.tile.now c.write_eight.new.out (ends_kept c.args.tile.now c.turn_rows.new.tile c.write_eight.new.out c.turn_rows.ensures.ends (c.write_eight.ensures.upper_rest 31 (inr (omega arith))) (c.write_eight.ensures.lower_rest 0 (inl (omega arith))))

pub returns-clause-bottom : goal.returns-clause-bottom
returns-clause-bottom c = bottom_same c.args.tile.now c.write_eight.new.out (ends_kept c.args.tile.now c.turn_rows.new.tile c.write_eight.new.out c.turn_rows.ensures.ends (c.write_eight.ensures.upper_rest 31 (inr (omega arith))) (c.write_eight.ensures.lower_rest 0 (inl (omega arith))))
