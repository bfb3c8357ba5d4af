use Rattle.std.proofs.Common.{◌+◌, arith, refl, length-set}
use Rattle.block_rule.proofs.InPlace.{column_more, others_more}
use Rattle.block_rule.proofs.in_place.put_rows.Goals as goal

pub loop-k-init : goal.loop-k-init
loop-k-init c =
    record {
      ee = omega arith;
      eo = omega arith;
      column = λ column are y low high. absurd (omega (arith, low, high));
      others = λ x y h k other. refl;
    }

pub loop-k-preserved : goal.loop-k-preserved
loop-k-preserved c =
    let l = c.loop-k in
    let j = c.args.from + l.k in
    record {
      ee = simp length-set l.invariant.ee;
      eo = simp length-set l.invariant.eo;
      column = λ column are y low high.
          column_more l.tile j c.with_first-upper.result c.with_first-lower.result _ c.with_first-upper.ensures c.with_first-lower.ensures (omega arith) (omega arith) (omega arith) column c.args.from (omega arith) (l.invariant.column column are) (are l.k (omega arith)) y low (omega (arith, high));
      others = λ x y h k other.
          others_more l.tile j c.with_first-upper.result c.with_first-lower.result _ c.with_first-upper.ensures c.with_first-lower.ensures (omega arith) (omega arith) (omega arith) _ c.args.from (omega arith) l.invariant.others x y h k (λ z low high. other z low (omega (arith, high)));
    }

pub returns-clause-column : goal.returns-clause-column
returns-clause-column c = λ column are y low high. c.loop-k.invariant.column column are y low (omega (arith, high))
