use Rattle.std.proofs.Common.{◌^◌, ◌<◌, arith}
use Rattle.block_rule.proofs.Words.{upper_left_bit, upper_right_bit, lower_left_bit, lower_right_bit}
use Rattle.block_rule.proofs.blocks.collided.Goals as goal

pub returns : goal.returns
returns c =
    let old = c.args.old in
    let walled : c.args.walled < 2 ^ 32 = omega arith in
    let ul : old.upper_left < 2 ^ 32 = omega arith in
    let ur : old.upper_right < 2 ^ 32 = omega arith in
    let ll : old.lower_left < 2 ^ 32 = omega arith in
    let lr : old.lower_right < 2 ^ 32 = omega arith in record {
      upper_left = λ i within. upper_left_bit _ _ _ _ _ i walled ul ur ll lr within;
      upper_right = λ i within. upper_right_bit _ _ _ _ _ i walled ul ur ll lr within;
      lower_left = λ i within. lower_left_bit _ _ _ _ _ i walled ul ur ll lr within;
      lower_right = λ i within. lower_right_bit _ _ _ _ _ i walled ul ur ll lr within;
    }
