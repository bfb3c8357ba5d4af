use Rattle.std.proofs.Common.{◌≡◌, ℕ, ◌/◌, ◌<◌, All, get_or, length, map}
use Rattle.std.specs.Vec.{vec_capacity}
use Rattle.phase_strips.specs.Strips.{IsOf, own_at}
use Rattle.phase_strips.specs.declared.runs.strip.OwnRows.{OwnRows}
use Rattle.phase_strips.proofs.runs.cut.Given as goal

abbrev pub invariant-loop-k : goal.invariant-loop-k
invariant-loop-k l = record {
  each : All (IsOf l.size) l.strips.items;
  own : (j : ℕ) (d : OwnRows) → j < l.k → get_or (map (λ s. s.own) l.strips.items) j d ≡ own_at (l.size.height / 64) l.count j;
  len : length l.strips.items ≡ l.k;
  room : vec_capacity l.strips ≡ l.count;
}
