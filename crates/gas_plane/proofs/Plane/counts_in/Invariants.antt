use Rattle.std.proofs.Common.{◌≡◌, ◌<◌, ◌≤◌, ◌+◌, ◌*◌, ◌/◌, ℕ, get_or}
use Rattle.gas_terms.proofs.FiniteSums.{sum_below}
use Rattle.gas_plane.proofs.PlaneCounts.{tile_counted}
use Rattle.gas_plane.proofs.Plane.counts_in.Given as goal

abbrev pub invariant-loop-row : goal.invariant-loop-row
invariant-loop-row l =
    record {
      so_far : (a b : ℕ) → a < 2 → b < 2 → get_or l.counts (2 * b + a) 0 ≡ sum_below (l.row * (l.self.width / 64)) (tile_counted l.self l.area a b);
      small : (k : ℕ) → k < 4 → get_or l.counts k 0 ≤ 2048 * (l.row * (l.self.width / 64));
    }

abbrev pub invariant-loop-column : goal.invariant-loop-column
invariant-loop-column l =
    record {
      so_far : (a b : ℕ) → a < 2 → b < 2 → get_or l.counts (2 * b + a) 0 ≡ sum_below (l.row * (l.self.width / 64) + l.column) (tile_counted l.self l.area a b);
      small : (k : ℕ) → k < 4 → get_or l.counts k 0 ≤ 2048 * (l.row * (l.self.width / 64) + l.column);
    }
