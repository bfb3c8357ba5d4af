use Rattle.std.proofs.Common.{◌≡◌, ◌+◌, ◌-◌, ◌≤◌}
use Rattle.phase_strips.specs.Strips.{IsAt}
use Rattle.phase_strips.proofs.runs.strip.Strip.run.Given as goal

abbrev pub invariant-loop-k : goal.invariant-loop-k
invariant-loop-k g l = record {
  few : l.k ≤ l.input.phases;
  own : l.self.own ≡ l.fn.self.own;
  at : IsAt g.N.RunName.course (l.input.from + l.k) l.self;
}

abbrev pub decreases-loop-k : goal.decreases-loop-k
decreases-loop-k g l = l.input.phases - l.k
