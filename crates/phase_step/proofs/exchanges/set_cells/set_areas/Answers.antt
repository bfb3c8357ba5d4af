use Rattle.std.proofs.Common.{◌≡◌, ◌+◌, ◌&&◌, Bool, true, false, not, refl, ap, arith}
use Rattle.bit_tile.specs.Tile.{has, cell_changes}
use Rattle.phase_step.specs.Exchanges.{is_in_any}
use Rattle.phase_step.proofs.TileChanges.{counts_as, no_counts}
use Rattle.phase_step.proofs.exchanges.set_cells.set_areas.Goals as goal

-- all are kept, all are set, none are set, or none are kept
none_changes : (here kept change : Bool) → kept ≡ true → ((here && not kept) && change) ≡ false
none_changes here kept change e = grind arith

all_change : (here kept change : Bool) → here ≡ true → kept ≡ false → change ≡ ((here && not kept) && change)
all_change here kept change e f = grind arith

none_set : (here kept change : Bool) → here ≡ false → ((here && not kept) && change) ≡ false
none_set here kept change e = grind arith

none_kept : (here kept change : Bool) → kept ≡ false → (here && change) ≡ ((here && not kept) && change)
none_kept here kept change e = grind arith

pub returns-then-one_covers-clause-count : goal.returns-then-one_covers-clause-count
returns-then-one_covers-clause-count c =
    no_counts _ (λ x y h k. none_changes (is_in_any c.args.areas.now (c.args.left + x) (c.args.top + y)) (is_in_any c.args.kept.now (c.args.left + x) (c.args.top + y)) (cell_changes c.args.held (has c.args.tile.now x y)) (c.if-one_covers.ensures refl x y h k))

pub returns-then-are_apart-clause-count : goal.returns-then-are_apart-clause-count
returns-then-are_apart-clause-count c =
    counts_as _ _ _ c.set_all.ensures.count (λ x y h k. all_change (is_in_any c.args.areas.now (c.args.left + x) (c.args.top + y)) (is_in_any c.args.kept.now (c.args.left + x) (c.args.top + y)) (cell_changes c.args.held (has c.args.tile.now x y)) (c.if-one_covers-2.ensures refl x y h k) (c.if-are_apart.ensures refl x y h k))

pub returns-then-are_apart-2-clause-count : goal.returns-then-are_apart-2-clause-count
returns-then-are_apart-2-clause-count c =
    no_counts _ (λ x y h k. none_set (is_in_any c.args.areas.now (c.args.left + x) (c.args.top + y)) (is_in_any c.args.kept.now (c.args.left + x) (c.args.top + y)) (cell_changes c.args.held (has c.args.tile.now x y)) (c.if-are_apart-2.ensures refl x y h k))

pub returns-then-are_apart-3-clause-count : goal.returns-then-are_apart-3-clause-count
returns-then-are_apart-3-clause-count c =
    counts_as _ _ _ c.set_each.ensures.count (λ x y h k. none_kept (is_in_any c.args.areas.now (c.args.left + x) (c.args.top + y)) (is_in_any c.args.kept.now (c.args.left + x) (c.args.top + y)) (cell_changes c.args.held (has c.args.tile.now x y)) (c.if-are_apart-3.ensures refl x y h k))

pub returns-clause-count : goal.returns-clause-count
returns-clause-count c = counts_as _ _ _ c.set_cells.ensures.count (λ x y h k. ap (λ b. b && cell_changes c.args.held (has c.args.tile.now x y)) (c.cells_but-cells.ensures x y h k))
