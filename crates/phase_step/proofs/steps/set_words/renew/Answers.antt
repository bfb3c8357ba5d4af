use Rattle.std.proofs.Common.{◌≡◌, ◌+◌, ◌*◌, ◌/◌, ◌≤◌, ◌∙◌, ap, subst, arith}
use Rattle.gas_terms.specs.Cells.{Extent, joined}
use Rattle.phase_step.specs.SolidBlocks.{AreRenewedUpTo}
use Rattle.phase_step.proofs.SolidBlocks.{far_rows, renewed_starts, renewed_ends, all_rows}
use Rattle.phase_step.proofs.steps.set_words.renew.Goals as goal

pub loop-row-init : goal.loop-row-init
loop-row-init c =
    let now = c.args.set.now in
    let none : 0 ≡ 0 * (now.width / 64) = omega arith in
    let down = ap (λ h. h / 64) (c.height.ensures ∙ ap (λ (s : Extent). s.height) c.size.ensures.extent) in
    record {
      all = c.requires.all;
      words = λ before other others differ are.
          far_rows c.args.area before (joined now other) c.args.words.now.rows.items c.args.words.now.blocks.items c.size.ensures.lattice.sized differ 0 c.next_near-row.result c.y-y.result c.h-h.result (c.height.result / 64) (omega arith) c.y-y.ensures c.h-h.ensures down
          c.next_near-row.ensures.far (subst (λ n. AreRenewedUpTo n before (joined now other) c.args.words.now.rows.items c.args.words.now.blocks.items) none (renewed_starts before (joined now other) c.args.words.now.rows.items c.args.words.now.blocks.items differ.sides are));
    }

pub loop-row-preserved : goal.loop-row-preserved
loop-row-preserved c =
    let now = c.args.set.now in
    let down = ap (λ h. h / 64) (c.height.ensures ∙ ap (λ (s : Extent). s.height) c.size.ensures.extent) in
    record {
      all = c.renew_row.ensures.all;
      words = λ before other others differ are.
          far_rows c.args.area before (joined now other) c.renew_row.new.words.rows.items c.renew_row.new.words.blocks.items c.size.ensures.lattice.sized differ (c.loop-row.row + 1) c.next_near-row-in-loop-row.result c.y-y.result c.h-h.result (c.height.result / 64) c.next_near-row-in-loop-row.ensures.order.0 c.y-y.ensures c.h-h.ensures down
          c.next_near-row-in-loop-row.ensures.far (c.renew_row.ensures.words before other others differ (c.loop-row.invariant.words before other others differ are));
    }

pub returns : goal.returns
returns c = λ before other others differ are.
    let now = c.args.set.now in
    let high = c.height.ensures ∙ ap (λ (s : Extent). s.height) c.size.ensures.extent in
    let down : now.height / 64 ≤ c.loop-row.row = omega (arith, high) in
    renewed_ends (c.loop-row.row * (now.width / 64)) before (joined now other) c.loop-row.words.rows.items c.loop-row.words.blocks.items (all_rows (joined now other) c.loop-row.row down) (record { rows = c.loop-row.invariant.all.rows; blocks = c.loop-row.invariant.all.blocks }) (c.loop-row.invariant.words before other others differ are)
