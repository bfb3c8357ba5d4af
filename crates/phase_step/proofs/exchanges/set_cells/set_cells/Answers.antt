use Rattle.std.proofs.Common.{◌≡◌, ◌&&◌, Bool, ap, sym, ◌∙◌, arith}
use Rattle.bit_tile.specs.Tile.{has}
use Rattle.bit_tile.specs.Tile.{cell_changes}
use Rattle.phase_step.proofs.TileChanges.{counts_as, widened_counts}
use Rattle.phase_step.proofs.exchanges.set_cells.set_cells.Goals as goal

exchanged : (was cell : Bool) → (was && cell) ≡ (cell && was)
exchanged was cell = grind arith

pub returns-then-held-clause-count : goal.returns-then-held-clause-count
returns-then-held-clause-count c =
    let t = c.args.tile.now in
    let s = c.args.cells.now in
    counts_as _ (has c.cut.new.self) (λ x y. has s x y && cell_changes c.args.held (has t x y)) (widened_counts _ _ c.cut.new.self c.count_by_parity.ensures.counts c.count_by_parity.ensures.bound c.widened.ensures)
    (λ x y h k. c.cut.ensures x y h k ∙ ap (λ b. has s x y && cell_changes b (has t x y)) (sym c.if-held.true))

pub returns-else-held-clause-count : goal.returns-else-held-clause-count
returns-else-held-clause-count c =
    let t = c.args.tile.now in
    let s = c.args.cells.now in
    counts_as _ (has c.meet-changed.result) (λ x y. has s x y && cell_changes c.args.held (has t x y))
    (widened_counts _ _ c.meet-changed.result c.count_by_parity-else-held.ensures.counts c.count_by_parity-else-held.ensures.bound c.widened-else-held.ensures)
    (λ x y h k. c.meet-changed.ensures x y h k ∙ (exchanged (has t x y) (has s x y) ∙ ap (λ b. has s x y && cell_changes b (has t x y)) (sym c.if-held.false)))
