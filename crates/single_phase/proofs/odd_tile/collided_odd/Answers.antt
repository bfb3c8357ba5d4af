use Rattle.std.proofs.Common.{sym, ◌∙◌}
use Rattle.bit_tile.specs.Bit.{bit}
use Rattle.block_rule.specs.Cell.{turned_cell}
use Rattle.block_rule.proofs.Windows.{cell_by, next_shown, previous_shown}
use Rattle.single_phase.proofs.odd_tile.collided_odd.Goals as goal

pub returns : goal.returns
returns c = λ window y s.
    let r = c.args.row in
    let right_upper = next_shown window y r.own.upper_right r.right.upper c.next.result s.upper_right s.right_upper c.next.ensures in
    let right_lower = next_shown window _ r.own.lower_right r.right.lower c.next-2.result s.lower_right s.right_lower c.next-2.ensures in
    let left_upper = previous_shown window y r.own.upper_left r.left.upper c.previous.result s.upper_left s.left_upper c.previous.ensures in
    let left_lower = previous_shown window _ r.own.lower_left r.left.lower c.previous-2.result s.lower_left s.left_lower c.previous-2.ensures in
    record {
      upper = record {
        left = λ i h. c.collided-begin.ensures.upper_left i h ∙ cell_by (turned_cell (bit c.args.begin i)) _ _ _ _ _ _ _ _ (sym (s.upper_left i h)) (right_upper i h) (sym (s.lower_left i h)) (right_lower i h);
        right = λ i h. c.collided-end.ensures.upper_right i h ∙ cell_by (turned_cell (bit c.args.end i)) _ _ _ _ _ _ _ _ (sym (s.upper_right i h)) (left_upper i h) (sym (s.lower_right i h)) (left_lower i h);
      };
      lower = record {
        left = λ i h. c.collided-begin.ensures.lower_left i h ∙ cell_by (turned_cell (bit c.args.begin i)) _ _ _ _ _ _ _ _ (sym (s.lower_left i h)) (right_lower i h) (sym (s.upper_left i h)) (right_upper i h);
        right = λ i h. c.collided-end.ensures.lower_right i h ∙ cell_by (turned_cell (bit c.args.end i)) _ _ _ _ _ _ _ _ (sym (s.lower_right i h)) (left_lower i h) (sym (s.upper_right i h)) (left_upper i h);
      };
    }
