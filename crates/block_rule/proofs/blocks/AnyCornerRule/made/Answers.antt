use Rattle.block_rule.proofs.Words.{any_upper_left, any_upper_right, any_lower_left, any_lower_right}
use Rattle.block_rule.proofs.blocks.AnyCornerRule.made.Goals as goal

pub returns : goal.returns
returns c =
    let old = c.args.old in record {
      upper_left = λ i within. any_upper_left old.upper_left old.upper_right old.lower_left old.lower_right i;
      upper_right = λ i within. any_upper_right old.upper_left old.upper_right old.lower_left old.lower_right i;
      lower_left = λ i within. any_lower_left old.upper_left old.upper_right old.lower_left old.lower_right i;
      lower_right = λ i within. any_lower_right old.upper_left old.upper_right old.lower_left old.lower_right i;
    }
