use Rattle.std.proofs.Common.{◌≡◌, ◌+◌, ◌*◌, ◌^◌, ◌<◌, ◌∙◌, sym, ap, arith, bit_and}
use Rattle.std.proofs.lemmas.Nat.{ones-le, and_le_l}
use Rattle.bit_tile.proofs.Sums.{sum_below-zero}
use Rattle.block_rule.specs.Classes.{particles_among}
use Rattle.block_rule.proofs.Holding.{among, ones_among, counted_rows_more}
use Rattle.block_rule.proofs.count.count_class.Goals as goal

pub loop-k-init : goal.loop-k-init
loop-k-init c = record { count = sym (sum_below-zero (among c.args.cells.now c.args.places.now)); bound = omega arith }

pub loop-k-preserved : goal.loop-k-preserved
loop-k-preserved c =
    let j = 2 * c.loop-k.k in
    let next : j + 1 + 1 ≡ 2 * (c.loop-k.k + 1) = omega arith in
    let old = c.args.cells.now in
    let places = c.args.places.now in
    let cells = c.joined.result in
    let there = c.joined-in-loop-k.result in
    let fits : cells < 2 ^ 64 = omega arith in
    let both_fit : bit_and cells there < 2 ^ 64 = omega (arith, and_le_l cells there) in
    let here = ones_among cells there old places j fits c.joined.ensures.first c.joined.ensures.second c.joined-in-loop-k.ensures.first c.joined-in-loop-k.ensures.second in
    record {
      count = counted_rows_more old places c.loop-k.n _ j c.loop-k.invariant.count here ∙ ap (particles_among old places) next;
      bound = omega (arith, ones-le 64 (bit_and cells there) both_fit, c.loop-k.invariant.bound);
    }
