use Rattle.std.proofs.Common.{◌≡◌, ◌*◌, ◌≤◌, get_or}
use Rattle.bit_tile.specs.Bit.{bit}
use Rattle.bit_tile.specs.Sums.{sum_below, count_below}
use Rattle.bit_tile.proofs.class.ones.Given as goal

abbrev pub invariant-loop-j : goal.invariant-loop-j
invariant-loop-j l =
    record {
      so_far : l.n ≡ sum_below (2 * l.j) (λ j. count_below 32 (bit (get_or l.class j 0)));
      bound : l.n ≤ 64 * l.j;
    }
