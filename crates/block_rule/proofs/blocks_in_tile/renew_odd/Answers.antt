use Rattle.std.proofs.Common.{refl, ◌*◌, ◌<◌, arith, length-set, get_or, bit_or}
use Rattle.block_rule.specs.Around.{either}
use Rattle.block_rule.proofs.BlockNames.{row_named, row_joined, each_named, kept_more, odd_more, odd_renewed}
use Rattle.block_rule.proofs.blocks_in_tile.renew_odd.Goals as goal

pub loop-k-preserved : goal.loop-k-preserved
loop-k-preserved c =
    let k = c.loop-k.k in
    let named = c.made_odd-named.result in
    let others = c.args.others.now in
    let begin = bit_or named.upper_left (get_or others.begin k 0) in
    let end = bit_or named.upper_right (get_or others.end k 0) in
    let was = c.loop-k.invariant in
    let small : k < 33 = omega (arith, c.requires) in
    record {
      begin_long = simp length-set was.begin_long;
      end_long = simp length-set was.end_long;
      begins = kept_more c.args.from k begin c.args.words.now.begin c.loop-k.words.begin (omega (arith, c.loop-k.auto.k)) was.begins;
      ends = kept_more c.args.from k end c.args.words.now.end c.loop-k.words.end (omega (arith, c.loop-k.auto.k)) was.ends;
      made = λ some other seen are.
          odd_more (either some other) c.loop-k.words.begin c.loop-k.words.end c.args.from k begin end (omega (arith, was.begin_long, c.requires)) (omega (arith, was.end_long, c.requires))
          (row_joined some other k named.upper_left named.upper_right (get_or others.begin k 0) (get_or others.end k 0) (row_named some k (2 * k) named refl (c.made_odd-named.ensures some (2 * k) (c.odd_row.ensures some seen))) (each_named others other are k small)) (was.made some other seen are);
    }

pub returns : goal.returns
returns c = λ before some other seen others differ are.
    let was = c.loop-k.invariant in
    odd_renewed c.args.from c.args.end before (either some other) differ c.args.words.now c.loop-k.words c.loop-k.k (omega arith) was.begins was.ends (λ k more below _. was.made some other seen others k more below) are
