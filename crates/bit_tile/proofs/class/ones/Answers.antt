use Rattle.std.proofs.Common.{◌+◌, ◌*◌, ◌^◌, ◌<◌, sym, get_or, arith}
use Rattle.std.proofs.lemmas.Nat.{ones-le}
use Rattle.bit_tile.specs.Bit.{bit}
use Rattle.bit_tile.specs.Sums.{count_below}
use Rattle.bit_tile.proofs.Sums.{sum_below-zero}
use Rattle.bit_tile.proofs.Counts.{ones_of_two, two_rows_more}
use Rattle.bit_tile.proofs.class.ones.Goals as goal

pub loop-j-init : goal.loop-j-init
loop-j-init c = record { so_far = sym (sum_below-zero _); bound = omega arith }

pub loop-j-preserved : goal.loop-j-preserved
loop-j-preserved c =
    let j = c.loop-j.j in
    let class = c.args.class.now in
    let fits : c.joined.result < 2 ^ 64 = omega arith in
    let here = ones_of_two c.joined.result (bit (get_or class (2 * j) 0)) (bit (get_or class (2 * j + 1) 0)) fits c.joined.ensures.first c.joined.ensures.second in
    record {
      so_far = two_rows_more c.loop-j.n j _ (λ k. count_below 32 (bit (get_or class k 0))) c.loop-j.invariant.so_far here;
      bound = omega (arith, ones-le 64 c.joined.result fits, c.loop-j.invariant.bound);
    }
