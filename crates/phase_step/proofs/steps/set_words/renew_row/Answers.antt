use Rattle.std.proofs.Common.{◌≡◌, ◌+◌, ◌*◌, ◌/◌, ◌<◌, ◌∙◌, ap, subst, sym, arith}
use Rattle.std.proofs.lemmas.Nat.{div-mul-add, mul-add-lt}
use Rattle.gas_terms.specs.Cells.{joined, tile_count}
use Rattle.phase_step.specs.SolidBlocks.{AreRenewedUpTo}
use Rattle.phase_step.proofs.SolidBlocks.{far_columns, windows_differ}
use Rattle.phase_step.proofs.steps.set_words.renew_row.Goals as goal

pub loop-column-init : goal.loop-column-init
loop-column-init c =
    let now = c.args.set.now in
    let row = c.args.row in
    let across = c.across-across.ensures.across in
    let order = c.next_near-column.ensures.order in
    let none : row * (now.width / 64) ≡ row * (now.width / 64) + 0 = omega arith in
    record {
      within = omega (arith, order, across);
      all = c.requires.all;
      words = λ before other others differ start.
          far_columns c.args.area before (joined now other) c.args.words.now.rows.items c.args.words.now.blocks.items c.across-across.ensures.lattice.sized differ row 0 c.next_near-column.result c.x-x.result c.w-w.result c.across-across.result (omega arith) order.1 c.x-x.ensures c.w-w.ensures across
          c.next_near-column.ensures.far (subst (λ n. AreRenewedUpTo n before (joined now other) c.args.words.now.rows.items c.args.words.now.blocks.items) none start);
    }

pub loop-column-preserved : goal.loop-column-preserved
loop-column-preserved c =
    let now = c.args.set.now in
    let row = c.args.row in
    let column = c.loop-column.column in
    let across = c.across-across.ensures.across in
    let order = c.next_near-column-in-loop-column.ensures.order in
    let inside : column < now.width / 64 = omega (arith, across) in
    record {
      within = omega (arith, order, across);
      all = c.renew_tile.ensures.all;
      words = λ before other others differ start.
          let here = subst (λ n. AreRenewedUpTo n before (joined now other) c.loop-column.words.rows.items c.loop-column.words.blocks.items) (ap (λ a. row * a + column) (sym across)) (c.loop-column.invariant.words before other others differ start) in
          let next : row * (now.width / 64) + column + 1 ≡ row * (now.width / 64) + (column + 1) = omega arith in
          far_columns c.args.area before (joined now other) c.renew_tile.new.words.rows.items c.renew_tile.new.words.blocks.items c.across-across.ensures.lattice.sized differ row (column + 1) c.next_near-column-in-loop-column.result c.x-x.result c.w-w.result c.across-across.result order.0 order.1 c.x-x.ensures c.w-w.ensures across
          c.next_near-column-in-loop-column.ensures.far (subst (λ n. AreRenewedUpTo n before (joined now other) c.renew_tile.new.words.rows.items c.renew_tile.new.words.blocks.items) (ap (λ a. row * a + column + 1) across ∙ next) (c.renew_tile.ensures.words before other others (record { wide = differ.sides.wide; high = differ.sides.high }) (windows_differ c.args.area before (joined now other) (row * c.across-across.result + column) c.args.near.0 c.args.near.1 row differ c.across-across.ensures.lattice.sized (subst (λ a. row * a + column < tile_count now) (sym across) (mul-add-lt row (now.width / 64) column (now.height / 64) c.requires.row inside)) (subst (λ a. (row * a + column) / (now.width / 64) ≡ row) (sym across) (div-mul-add row (now.width / 64) column inside)) c.requires.near) here));
    }

pub returns-clause-words : goal.returns-clause-words
returns-clause-words c = λ before other others differ start.
    let now = c.args.set.now in
    let within = c.loop-column.invariant.within in
    let all : c.loop-column.column ≡ now.width / 64 = omega (arith, within, c.across-across.ensures.across) in
    let end : c.args.row * (now.width / 64) + now.width / 64 ≡ (c.args.row + 1) * (now.width / 64) = omega arith in
    subst (λ n. AreRenewedUpTo n before (joined now other) c.loop-column.words.rows.items c.loop-column.words.blocks.items) (ap (λ k. c.args.row * (now.width / 64) + k) all ∙ end) (c.loop-column.invariant.words before other others differ start)
