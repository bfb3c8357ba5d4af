use Rattle.std.proofs.Common.{arith, refl, inl, inr}
use Rattle.block_rule.specs.Around.{turned_window}
use Rattle.block_rule.proofs.InPlace.{eight_turned, rows_kept, places_from, places_to, ends_kept}
use Rattle.block_rule.proofs.in_place.turn_eight.Goals as goal

pub returns-clause-turned : goal.returns-clause-turned
returns-clause-turned g c = λ window solid after are seen named coming.
    let w = c.write_eight.ensures in
    eight_turned c.args.from c.args.tile.now c.write_eight.new.out c.turned_on-rows.result w.rows w.upper_rest w.lower_rest after
    (c.turned_on-rows.ensures.turned window solid after are seen named (places_from c.args.from _ (after 0) coming))

pub returns-clause-leaving : goal.returns-clause-leaving
returns-clause-leaving g c = λ window solid seen named. places_to c.args.from _ (turned_window 1 window solid 64) (c.turned_on-rows.ensures.leaving window solid seen named)

pub returns-clause-ends : goal.returns-clause-ends
returns-clause-ends g c = ends_kept c.args.tile.now c.args.tile.now c.write_eight.new.out (record { top_even = refl; top_odd = refl; bottom_even = refl; bottom_odd = refl }) (c.write_eight.ensures.upper_rest 31 (inr (omega arith))) (c.write_eight.ensures.lower_rest 0 (inl (omega arith)))

pub returns-clause-others : goal.returns-clause-others
returns-clause-others g c =
    let w = c.write_eight.ensures in
    record {
      rows = rows_kept c.args.from c.args.tile.now c.write_eight.new.out c.turned_on-rows.result w.rows w.upper_rest w.lower_rest;
      carried = c.turned_on-rows.ensures.others;
    }
