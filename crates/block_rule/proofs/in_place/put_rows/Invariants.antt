use Rattle.std.proofs.Common.{◌≡◌, ℕ, ◌+◌, ◌*◌, ◌<◌, ◌≤◌, Bool, length}
use Rattle.bit_tile.specs.Tile.{has}
use Rattle.block_rule.specs.InPlace.{IsLeaving, carried_row, HasOtherCells}
use Rattle.block_rule.proofs.in_place.put_rows.Given as goal

abbrev pub invariant-loop-k : goal.invariant-loop-k
invariant-loop-k l =
    record {
      ee : length l.tile.even_even ≡ 32;
      eo : length l.tile.even_odd ≡ 32;
      column : (column : ℕ → Bool) → ((m : ℕ) → m < l.rows → IsLeaving (carried_row l.carry (l.at + m)) column (l.from + m)) → (y : ℕ) → 2 * l.from < y → y ≤ 2 * (l.from + l.k) → has l.tile 0 y ≡ column y;
      others : HasOtherCells (2 * l.from) (2 * (l.from + l.k)) l.initial.tile l.tile;
    }
