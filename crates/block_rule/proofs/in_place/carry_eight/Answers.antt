use Rattle.std.proofs.Common.{arith, length-set}
use Rattle.block_rule.proofs.InPlace.{places_written, places_left}
use Rattle.block_rule.proofs.in_place.carry_eight.Goals as goal

pub loop-k-preserved : goal.loop-k-preserved
loop-k-preserved c =
    let l = c.loop-k in
    let e = c.args.eight.now in
    record {
      up = simp length-set l.invariant.up;
      low = simp length-set l.invariant.low;
      done = places_written l.carry.upper l.carry.lower e.upper e.lower c.args.at l.k (omega arith) (omega arith) l.invariant.done;
      others = places_left l.carry.upper l.carry.lower _ _ _ _ c.args.at l.k l.invariant.others;
    }
