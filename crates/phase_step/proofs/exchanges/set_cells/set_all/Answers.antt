use Rattle.std.proofs.Common.{ap, sym}
use Rattle.bit_tile.specs.Tile.{has}
use Rattle.bit_tile.specs.Tile.{cell_changes}
use Rattle.phase_step.proofs.TileChanges.{counts_as, lacking_counts, widened_counts}
use Rattle.phase_step.proofs.exchanges.set_cells.set_all.Goals as goal

pub returns-then-held-clause-count : goal.returns-then-held-clause-count
returns-then-held-clause-count c =
    let t = c.args.tile.now in
    counts_as _ _ _ (lacking_counts _ _ t c.count_by_parity-counts.ensures.counts c.lacking.ensures) (λ x y _ _. ap (λ b. cell_changes b (has t x y)) (sym c.if-held.true))

pub returns-else-held-clause-count : goal.returns-else-held-clause-count
returns-else-held-clause-count c =
    let t = c.args.tile.now in
    counts_as _ _ _ (widened_counts _ _ t c.count_by_parity-counts.ensures.counts c.count_by_parity-counts.ensures.bound c.widened.ensures) (λ x y _ _. ap (λ b. cell_changes b (has t x y)) (sym c.if-held.false))
