use Rattle.std.proofs.Common.{inl, inr, ◌-◌, ◌<◌, arith}
use Rattle.block_rule.proofs.BlockNames.{told_some, told_none, rest_set, rest_cleared, rows_renewed}
use Rattle.block_rule.proofs.blocks_in_tile.renew_rows.Goals as goal
use Rattle.block_rule.proofs.blocks_in_tile.renew_rows.Goals.{then-even-j-ne0, else-even-j-ne0}

pub loop-j-preserved : goal.loop-j-preserved
loop-j-preserved c =
    let b = c.args.blocks.now in
    let j = c.loop-j.j in
    let from = c.args.from - 1 in
    let was = c.loop-j.invariant in
    let small : j < 32 = omega (arith, c.min-j-end.ensures) in
    elim c.if-even-j-ne0.branch [
      | then-even-j-ne0 w ↦
          rw w.row_pairs-is
          record {
            made = told_some b c.loop-j.row_pairs j small from was.made;
            kept = λ k there row.
                elim there [
                  | inl below ↦ rest_set c.loop-j.row_pairs c.args.rows j k small (λ e. omega (arith, below, e, c.loop-j.auto.j, c.saturating_sub-j.ensures)) (was.kept k (inl below) row)
                  | inr above ↦ rest_set c.loop-j.row_pairs c.args.rows j k small (λ e. omega (arith, above, e)) (was.kept k (inr (omega (arith, above))) row)
                ];
          }
      | else-even-j-ne0 w ↦
          rw w.row_pairs-is
          record {
            made = told_none b c.loop-j.row_pairs j small from was.made (omega (arith, w.if-even-j-ne0.false));
            kept = λ k there row.
                elim there [
                  | inl below ↦ rest_cleared c.loop-j.row_pairs c.args.rows j k small row (λ e. omega (arith, below, e, c.loop-j.auto.j, c.saturating_sub-j.ensures)) (was.kept k (inl below) row)
                  | inr above ↦ rest_cleared c.loop-j.row_pairs c.args.rows j k small row (λ e. omega (arith, above, e)) (was.kept k (inr (omega (arith, above))) row)
                ];
          }
    ]

pub returns : goal.returns
returns c = λ before now differ evens odds row_pairs.
    rows_renewed c.args.from c.args.end before now differ c.args.blocks.now c.args.rows c.loop-j.row_pairs c.loop-j.j (λ m small above. omega (arith, above, small, c.min-j-end.ensures, c.loop-j-test.false)) c.loop-j.invariant.made c.loop-j.invariant.kept evens odds row_pairs
