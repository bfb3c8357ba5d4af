use Rattle.std.proofs.Common.{◌∙◌, arith, inr, length-set}
use Rattle.block_rule.specs.Around.{turned_window}
use Rattle.block_rule.specs.InPlace.{IsRowTurned, IsLeaving}
use Rattle.block_rule.proofs.InPlace.{rows_more, rows_left, beside_more, beside_left, begun_shown, leaving_kept, ends_left}
use Rattle.block_rule.proofs.in_place.turn_rows.Goals as goal

pub loop-j-preserved : goal.loop-j-preserved
loop-j-preserved c =
    let l = c.loop-j in
    let r = c.turned_row-row in
    let others = l.invariant.others in
    record {
      ee = simp length-set l.invariant.ee;
      oe = simp length-set l.invariant.oe;
      eo = simp length-set l.invariant.eo;
      oo = simp length-set l.invariant.oo;
      up = simp length-set l.invariant.up;
      low = simp length-set l.invariant.low;
      done = λ window solid after are seen named coming m low below.
          rows_more (λ m new. IsRowTurned new after m) l.tile r.result.own l.j (omega arith) (omega arith) (omega arith) (omega arith)
          (λ m below. l.invariant.done window solid after are seen named coming m (omega arith) below)
          (r.ensures.own window solid after l.j are
          (begun_shown window l.j c.begun_row-own.result _ c.right_row-beside.result _ (c.begun_row-own.ensures ∙ others.rows l.j (inr (omega arith))) c.right_row-beside.ensures (seen l.j (omega arith) (omega arith)))
          (named l.j (omega arith) (omega arith)) (leaving_kept (after 0) l.j _ _ (others.carried l.j (inr (omega arith))) (coming l.j (omega arith) (omega arith)))) m below;
      leaving = λ window solid seen named m low below.
          beside_more (λ m new. IsLeaving new (turned_window 1 window solid 64) m) l.carry.upper l.carry.lower r.result.leaving.upper r.result.leaving.lower l.j (omega arith) (omega arith)
          (λ m below. l.invariant.leaving window solid seen named m (omega arith) below)
          (r.ensures.leaving window solid l.j
          (begun_shown window l.j c.begun_row-own.result _ c.right_row-beside.result _ (c.begun_row-own.ensures ∙ others.rows l.j (inr (omega arith))) c.right_row-beside.ensures (seen l.j (omega arith) (omega arith)))
          (named l.j (omega arith) (omega arith))) m below;
      ends = ends_left l.tile _ r.result.own l.j (omega arith) l.invariant.ends;
      others = record {
        rows = rows_left 0 l.tile _ r.result.own l.j (omega arith) others.rows;
        carried = beside_left 0 l.carry.upper l.carry.lower _ _ r.result.leaving.upper r.result.leaving.lower l.j (omega arith) others.carried;
      };
    }

pub returns-clause-turned : goal.returns-clause-turned
returns-clause-turned c = λ window solid after are seen named coming j low below. c.loop-j.invariant.done window solid after are seen named coming j low (omega (arith, below))
