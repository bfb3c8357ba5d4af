use Rattle.std.proofs.Common.{◌≡◌, ℕ, ◌*◌, ◌<◌, ◌≤◌, ◌&&◌, nat_le, if◌then◌else◌, length, get_or}
use Rattle.bit_tile.specs.Bit.{bit}
use Rattle.bit_tile.specs.Sums.{sum_below, count_below}
use Rattle.bit_tile.specs.Tile.{cell_changes}
use Rattle.bit_tile.proofs.class.set_each.Given as goal

abbrev pub invariant-loop-j : goal.invariant-loop-j
invariant-loop-j l =
    record {
      long : length l.class ≡ 32;
      done : (i k : ℕ) → i < 32 → k < l.j → bit (get_or l.class k 0) i ≡ (if bit l.word i && nat_le l.first k then l.held else bit (get_or l.initial.class k 0) i);
      left : (k : ℕ) → l.j ≤ k → get_or l.class k 0 ≡ get_or l.initial.class k 0;
      so_far : l.n ≡ sum_below l.j (λ k. count_below 32 (λ i. (bit l.word i && nat_le l.first k) && cell_changes l.held (bit (get_or l.initial.class k 0) i)));
      bound : l.n ≤ 32 * l.j;
    }
