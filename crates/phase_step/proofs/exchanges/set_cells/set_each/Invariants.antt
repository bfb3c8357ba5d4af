use Rattle.std.proofs.Common.{◌+◌, ◌&&◌, if◌then◌else◌, take}
use Rattle.bit_tile.specs.Tile.{has, HasCells, cell_changes}
use Rattle.phase_step.specs.Counts.{AreTileCounts}
use Rattle.phase_step.specs.Exchanges.{is_in_any}
use Rattle.phase_step.proofs.exchanges.set_cells.set_each.Given as goal

abbrev pub invariant-loop-area : goal.invariant-loop-area
invariant-loop-area l =
    record {
      cells : HasCells l.tile (λ x y. if is_in_any (take l.area-index l.areas) (l.left + x) (l.top + y) then l.held else has l.initial.tile x y);
      count : AreTileCounts l.changed (λ x y. is_in_any (take l.area-index l.areas) (l.left + x) (l.top + y) && cell_changes l.held (has l.initial.tile x y));
    }
