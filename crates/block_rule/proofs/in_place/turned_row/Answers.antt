use Rattle.std.proofs.Common.{◌+◌, ◌*◌, ◌∙◌, sym, arith}
use Rattle.block_rule.proofs.InPlace.{upper_left_turned, upper_right_turned, lower_left_turned, lower_right_turned, landed}
use Rattle.block_rule.proofs.in_place.turned_row.Goals as goal

pub returns-clause-own : goal.returns-clause-own
returns-clause-own c = λ window solid after j are s named coming.
    let a = c.args in
    let right_upper = upper_right_turned window solid j a.own a.right a.walled c.next.result c.next-2.result c.collided-made.result s named c.next.ensures c.next-2.ensures c.collided-made.ensures in
    let right_lower = lower_right_turned window solid j a.own a.right a.walled c.next.result c.next-2.result c.collided-made.result s named c.next.ensures c.next-2.ensures c.collided-made.ensures in
    record {
      upper_left = λ i h. upper_left_turned window solid j a.own a.right a.walled c.next.result c.next-2.result c.collided-made.result s named c.next.ensures c.next-2.ensures c.collided-made.ensures i h ∙ sym (are (2 * i + 1) (2 * j + 1) (omega arith));
      upper_right = landed (λ x. after x (2 * j + 1)) c.previous.result a.coming.upper c.collided-made.result.upper_right c.previous.ensures coming.upper (λ i h. right_upper i h ∙ sym (are (2 * i + 2) (2 * j + 1) (omega arith)));
      lower_left = λ i h. lower_left_turned window solid j a.own a.right a.walled c.next.result c.next-2.result c.collided-made.result s named c.next.ensures c.next-2.ensures c.collided-made.ensures i h ∙ sym (are (2 * i + 1) (2 * j + 2) (omega arith));
      lower_right = landed (λ x. after x (2 * j + 2)) c.previous-2.result a.coming.lower c.collided-made.result.lower_right c.previous-2.ensures coming.lower (λ i h. right_lower i h ∙ sym (are (2 * i + 2) (2 * j + 2) (omega arith)));
    }

pub returns-clause-leaving : goal.returns-clause-leaving
returns-clause-leaving c = λ window solid j s named.
    let a = c.args in
    record {
      upper = upper_right_turned window solid j a.own a.right a.walled c.next.result c.next-2.result c.collided-made.result s named c.next.ensures c.next-2.ensures c.collided-made.ensures 31 (omega arith);
      lower = lower_right_turned window solid j a.own a.right a.walled c.next.result c.next-2.result c.collided-made.result s named c.next.ensures c.next-2.ensures c.collided-made.ensures 31 (omega arith);
    }
