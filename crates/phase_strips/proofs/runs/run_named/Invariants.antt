use Rattle.std.proofs.Common.{◌≡◌, ◌≤◌, ◌<◌, ◌-◌, All, length}
use Rattle.phase_strips.specs.Strips.{IsAt}
use Rattle.phase_strips.proofs.runs.run_named.Given as goal

abbrev pub invariant-loop-done : goal.invariant-loop-done
invariant-loop-done g l = record {
  few : l.done ≤ l.run.n;
  size : l.strips.size ≡ l.initial.strips.size;
  count : length l.strips.strips.items ≡ length l.initial.strips.strips.items;
  same : l.particles ≡ l.initial.particles;
  at : 0 < l.done → All (IsAt g.N.RunName.course l.done) l.strips.strips.items;
}

abbrev pub decreases-loop-done : goal.decreases-loop-done
decreases-loop-done g l = l.run.n - l.done
