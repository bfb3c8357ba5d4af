use Rattle.std.proofs.Common.{◌≡◌, ℕ, ◌<◌, ◌≤◌, ◌||◌, length, get_or}
use Rattle.bit_tile.specs.Bit.{bit}
use Rattle.bit_tile.proofs.class.add.Given as goal

abbrev pub invariant-loop-j : goal.invariant-loop-j
invariant-loop-j l =
    record {
      long : length l.class ≡ 32;
      done : (i k : ℕ) → k < l.j → bit (get_or l.class k 0) i ≡ (bit (get_or l.initial.class k 0) i || bit (get_or l.other k 0) i);
      left : (k : ℕ) → l.j ≤ k → get_or l.class k 0 ≡ get_or l.initial.class k 0;
    }
