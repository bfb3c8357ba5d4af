use Rattle.std.proofs.Common.{◌≡◌, ℕ, ◌+◌, ◌<◌, length}
use Rattle.bit_tile.specs.Bit.{bit}
use Rattle.block_rule.specs.Cell.{turned_cell}
use Rattle.block_rule.specs.Rows.{IsMade, even_row, eight_row}
use Rattle.block_rule.proofs.collide_even.collided_eight.Given as goal

abbrev pub invariant-loop-k : goal.invariant-loop-k
invariant-loop-k g l =
    record {
      ul : length l.rows.upper_left ≡ 8;
      ur : length l.rows.upper_right ≡ 8;
      ll : length l.rows.lower_left ≡ 8;
      lr : length l.rows.lower_right ≡ 8;
      done : (m : ℕ) → m < l.k → IsMade (λ i. turned_cell (bit (g.W.Walled.evens l.walled (l.from + m)) i)) (even_row l.tile (l.from + m)) (eight_row l.rows m);
    }
