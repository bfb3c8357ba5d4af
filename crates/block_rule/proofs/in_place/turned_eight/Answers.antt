use Rattle.std.proofs.Common.{◌+◌, arith, length-set}
use Rattle.block_rule.specs.Around.{turned_window}
use Rattle.block_rule.specs.InPlace.{IsRowTurned, IsLeaving}
use Rattle.block_rule.proofs.Windows.{eight_more}
use Rattle.block_rule.proofs.InPlace.{beside_more, begun_shown, row_named_alike}
use Rattle.block_rule.proofs.in_place.turned_eight.Goals as goal

pub loop-k-preserved : goal.loop-k-preserved
loop-k-preserved g c =
    let l = c.loop-k in
    let r = c.turned_row-row in
    let from = c.args.from in
    record {
      ul = simp length-set l.invariant.ul;
      ur = simp length-set l.invariant.ur;
      ll = simp length-set l.invariant.ll;
      lr = simp length-set l.invariant.lr;
      up = simp length-set l.invariant.up;
      low = simp length-set l.invariant.low;
      done = λ window solid after are seen named coming.
          eight_more (λ m new. IsRowTurned new after (from + m)) l.eight.own r.result.own l.k (omega arith) (omega arith) (omega arith) (omega arith)
          (l.invariant.done window solid after are seen named coming)
          (r.ensures.own window solid after (from + l.k) are
          (begun_shown window (from + l.k) c.begun_row-own.result _ c.right_row-beside.result _ c.begun_row-own.ensures c.right_row-beside.ensures (seen (from + l.k) (omega arith) (omega arith)))
          (row_named_alike _ _ solid (from + l.k) c.begin.ensures (named (from + l.k) (omega arith) (omega arith))) (coming l.k (omega arith)));
      leaving = λ window solid seen named.
          beside_more (λ m new. IsLeaving new (turned_window 1 window solid 64) (from + m)) l.eight.upper l.eight.lower r.result.leaving.upper r.result.leaving.lower l.k (omega arith) (omega arith)
          (l.invariant.leaving window solid seen named)
          (r.ensures.leaving window solid (from + l.k)
          (begun_shown window (from + l.k) c.begun_row-own.result _ c.right_row-beside.result _ c.begun_row-own.ensures c.right_row-beside.ensures (seen (from + l.k) (omega arith) (omega arith)))
          (row_named_alike _ _ solid (from + l.k) c.begin.ensures (named (from + l.k) (omega arith) (omega arith))));
    }

pub returns-clause-turned : goal.returns-clause-turned
returns-clause-turned g c = λ window solid after are seen named coming k few. c.loop-k.invariant.done window solid after are seen named coming k (omega (arith, few))
