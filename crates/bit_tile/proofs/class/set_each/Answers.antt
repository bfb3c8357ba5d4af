use Rattle.std.proofs.Common.{◌≡◌, ℕ, ◌<◌, ◌≤◌, ◌∙◌, ◌&&◌, if◌then◌else◌, nat_le, refl, get_or, arith, length-set}
use Rattle.bit_tile.specs.Bit.{bit}
use Rattle.bit_tile.specs.Tile.{cell_changes}
use Rattle.bit_tile.proofs.Bits.{bit-zero}
use Rattle.bit_tile.proofs.Words32.{bit-ones}
use Rattle.bit_tile.proofs.Classes.{rows_more_within}
use Rattle.bit_tile.proofs.SetRows.{before_first, none_before, none_in_row, above_first, of_row, row_is, kept_below, one_row_more, row_bit, changed_count, changed_few, counts_of_all}
use Rattle.bit_tile.proofs.class.set_each.Goals as goal
use Rattle.bit_tile.proofs.class.set_each.Goals.{then-held, else-held}

pub loop-j-init : goal.loop-j-init
loop-j-init c =
    let class = c.args.class.now in
    record {
      long = c.told-class;
      done = λ i k h above. before_first c.args.word c.args.rows.0 i k _ _ above;
      left = λ k h. refl;
      so_far = none_before c.args.rows.0 _ (λ k above. none_in_row _ (λ i _. above_first c.args.word c.args.rows.0 i k (cell_changes c.args.held (bit (get_or class k 0) i)) above));
      bound = omega arith;
    }

pub loop-j-preserved : goal.loop-j-preserved
loop-j-preserved c =
    let j = c.loop-j.j in
    let old = c.args.class.now in
    let row = get_or c.loop-j.class j 0 in
    let same : row ≡ get_or old j 0 = c.loop-j.invariant.left j (omega arith) in
    let all : (i : ℕ) → i < 32 → bit c.if-held.flip i ≡ c.args.held = λ i h.
    elim c.if-held.branch [
      | then-held w ↦ rw (w.flip-is, w.if-held.true) (bit-ones i h)
      | else-held w ↦ rw (w.flip-is, w.if-held.false) (bit-zero i)
    ] in
    let from : c.args.rows.0 ≤ j = omega arith in
    record {
      long = length-set _ _ _ ∙ c.loop-j.invariant.long;
      done = rows_more_within c.loop-j.class j _ (λ i k. if bit c.args.word i && nat_le c.args.rows.0 k then c.args.held else bit (get_or old k 0) i) (omega arith) c.loop-j.invariant.done
          (λ i h. row_bit row c.args.word c.if-held.flip c.args.held all i h ∙ row_is c.args.word c.args.rows.0 i j c.args.held _ _ from same);
      left = λ k h. kept_below _ _ _ _ h ∙ c.loop-j.invariant.left k (omega arith);
      so_far = one_row_more c.loop-j.n j _ _ c.loop-j.invariant.so_far
          (changed_count row c.args.word c.if-held.flip c.args.held all c.ranges.word.fits
          ∙ of_row c.args.word c.args.rows.0 j c.args.held row (get_or old j 0) from same);
      bound = omega (arith, c.loop-j.invariant.bound, changed_few row c.args.word c.if-held.flip c.args.held all c.ranges.word.fits);
    }

pub returns-clause-count : goal.returns-clause-count
returns-clause-count c =
    let old = c.args.class.now in
    c.loop-j.invariant.so_far ∙ counts_of_all c.args.word c.args.rows.0 c.args.rows.1 c.loop-j.j (λ i k. cell_changes c.args.held (bit (get_or old k 0) i)) (omega arith) (omega arith)
