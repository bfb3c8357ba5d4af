use Rattle.std.proofs.Common.{◌≡◌, ℕ, ◌+◌, ◌<◌, Bool, length}
use Rattle.block_rule.specs.Around.{turned_window}
use Rattle.block_rule.specs.Rows.{eight_row}
use Rattle.block_rule.specs.InPlace.{TurnsInto, IsRowTurned, IsLeaving, AreRowsSeen, AreNamed, AreEightCarried, eight_leaving}
use Rattle.block_rule.proofs.in_place.turned_eight.Given as goal

abbrev pub invariant-loop-k : goal.invariant-loop-k
invariant-loop-k g l =
    record {
      ul : length l.eight.own.upper_left ≡ 8;
      ur : length l.eight.own.upper_right ≡ 8;
      ll : length l.eight.own.lower_left ≡ 8;
      lr : length l.eight.own.lower_right ≡ 8;
      up : length l.eight.upper ≡ 8;
      low : length l.eight.lower ≡ 8;
      done : (window solid after : ℕ → ℕ → Bool) → TurnsInto window solid after → AreRowsSeen l.from (l.from + 8) window l.tile l.right → AreNamed l.from (l.from + 8) (g.W.Walled.begins l.walled) solid → AreEightCarried l.from l.at l.carry (after 0) → (k : ℕ) → k < l.k → IsRowTurned (eight_row l.eight.own k) after (l.from + k);
      leaving : (window solid : ℕ → ℕ → Bool) → AreRowsSeen l.from (l.from + 8) window l.tile l.right → AreNamed l.from (l.from + 8) (g.W.Walled.begins l.walled) solid → (k : ℕ) → k < l.k → IsLeaving (eight_leaving l.eight.upper l.eight.lower k) (turned_window 1 window solid 64) (l.from + k);
    }
