use Rattle.std.proofs.Common.{◌≡◌, ℕ, ◌<◌, ◌&&◌, length, get_or}
use Rattle.bit_tile.specs.Bit.{bit}
use Rattle.bit_tile.proofs.class.both.Given as goal

abbrev pub invariant-loop-j : goal.invariant-loop-j
invariant-loop-j l =
    record {
      long : length l.rows ≡ 32;
      done : (i k : ℕ) → k < l.j → bit (get_or l.rows k 0) i ≡ (bit (get_or l.class k 0) i && bit (get_or l.other k 0) i);
    }
