use Rattle.std.proofs.Common.{◌-◌, ◌*◌, ◌<◌, arith, length-set, get_or, bit_or}
use Rattle.block_rule.specs.Around.{either, is_walled_at}
use Rattle.block_rule.proofs.BlockNames.{even_row_named, even_joined, kept_more, even_more, even_renewed}
use Rattle.block_rule.proofs.blocks_in_tile.renew_even.Goals as goal

pub loop-j-preserved : goal.loop-j-preserved
loop-j-preserved c =
    let j = c.loop-j.j in
    let named = c.made-named.result in
    let word = get_or c.args.others.now j 0 in
    let was = c.loop-j.invariant in
    let small : j < 32 = omega (arith, c.min-j-end.ensures) in
    record {
      long = simp length-set was.long;
      kept = kept_more (c.args.from - 1) j (bit_or named.upper_left word) c.args.words.now c.loop-j.words (omega (arith, c.loop-j.auto.j, c.saturating_sub-j.ensures)) was.kept;
      made = λ some other shows are.
          even_more c.loop-j.words (λ i k. is_walled_at 0 (either some other) (2 * i) (2 * k)) (c.args.from - 1) j (bit_or named.upper_left word) (omega (arith, was.long, small))
          (λ i h. even_joined some other (2 * i) (2 * j) named.upper_left word i (even_row_named some c.args.set.now named j small shows c.made-named.ensures i h) (are i j h small)) (was.made some other shows are);
    }

pub returns : goal.returns
returns c = λ before some other shows others differ are.
    let was = c.loop-j.invariant in
    even_renewed c.args.from c.args.end before (either some other) differ c.args.words.now c.loop-j.words c.loop-j.j (λ m small above. omega (arith, above, small, c.min-j-end.ensures, c.loop-j-test.false)) was.kept (λ i k h more below _. was.made some other shows others i k h more below) are
