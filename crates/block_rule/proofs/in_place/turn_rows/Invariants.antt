use Rattle.std.proofs.Common.{◌≡◌, ℕ, Bool, length}
use Rattle.block_rule.specs.Around.{turned_window}
use Rattle.block_rule.specs.InPlace.{TurnsInto, AreRowsSeen, AreNamed, AreCarried, AreOthersKept, HaveTurned, AreEndsKept}
use Rattle.block_rule.proofs.in_place.turn_rows.Given as goal

abbrev pub invariant-loop-j : goal.invariant-loop-j
invariant-loop-j l =
    record {
      ee : length l.tile.even_even ≡ 32;
      oe : length l.tile.odd_even ≡ 32;
      eo : length l.tile.even_odd ≡ 32;
      oo : length l.tile.odd_odd ≡ 32;
      up : length l.carry.upper ≡ 32;
      low : length l.carry.lower ≡ 32;
      done : (window solid after : ℕ → ℕ → Bool) → TurnsInto window solid after → AreRowsSeen 0 24 window l.initial.tile l.right → AreNamed 0 24 (λ _. 0) solid → AreCarried 0 24 l.initial.carry (after 0) → HaveTurned 0 l.j l.tile after;
      leaving : (window solid : ℕ → ℕ → Bool) → AreRowsSeen 0 24 window l.initial.tile l.right → AreNamed 0 24 (λ _. 0) solid → AreCarried 0 l.j l.carry (turned_window 1 window solid 64);
      ends : AreEndsKept l.initial.tile l.tile;
      others : AreOthersKept 0 l.j l.initial.tile l.tile l.initial.carry l.carry;
    }
