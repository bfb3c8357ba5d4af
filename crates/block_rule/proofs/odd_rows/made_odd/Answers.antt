use Rattle.std.proofs.Common.{sym, ◌∙◌}
use Rattle.block_rule.proofs.Windows.{cell_by, next_shown, previous_shown}
use Rattle.block_rule.proofs.odd_rows.made_odd.Goals as goal

pub returns : goal.returns
returns g c = λ window y s.
    let right_upper = next_shown window y c.args.row.own.upper_right c.args.row.right.upper c.next.result s.upper_right s.right_upper c.next.ensures in
    let right_lower = next_shown window _ c.args.row.own.lower_right c.args.row.right.lower c.next-2.result s.lower_right s.right_lower c.next-2.ensures in
    let left_upper = previous_shown window y c.args.row.own.upper_left c.args.row.left.upper c.previous.result s.upper_left s.left_upper c.previous.ensures in
    let left_lower = previous_shown window _ c.args.row.own.lower_left c.args.row.left.lower c.previous-2.result s.lower_left s.left_lower c.previous-2.ensures in
    record {
      upper_left = λ i h. c.made-begin.ensures.upper_left i h ∙ cell_by (g.R.Rule.cell c.args.rule) _ _ _ _ _ _ _ _ (sym (s.upper_left i h)) (right_upper i h) (sym (s.lower_left i h)) (right_lower i h);
      upper_right = λ i h. c.made-end.ensures.upper_right i h ∙ cell_by (g.R.Rule.cell c.args.rule) _ _ _ _ _ _ _ _ (sym (s.upper_right i h)) (left_upper i h) (sym (s.lower_right i h)) (left_lower i h);
      lower_left = λ i h. c.made-begin.ensures.lower_left i h ∙ cell_by (g.R.Rule.cell c.args.rule) _ _ _ _ _ _ _ _ (sym (s.lower_left i h)) (right_lower i h) (sym (s.upper_left i h)) (right_upper i h);
      lower_right = λ i h. c.made-end.ensures.lower_right i h ∙ cell_by (g.R.Rule.cell c.args.rule) _ _ _ _ _ _ _ _ (sym (s.lower_right i h)) (left_lower i h) (sym (s.upper_right i h)) (left_upper i h);
    }
