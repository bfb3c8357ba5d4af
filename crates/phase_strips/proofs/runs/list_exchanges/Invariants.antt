use Rattle.std.proofs.Common.{◌≡◌, length}
use Rattle.std.specs.Vec.{vec_capacity}
use Rattle.phase_strips.specs.Courses.{Lists}
use Rattle.phase_strips.proofs.runs.list_exchanges.Given as goal

abbrev pub invariant-loop-k : goal.invariant-loop-k
invariant-loop-k g l = record {
  so_far : Lists l.exchanges.items (g.A.Action.leaves l.action) l.from l.k;
  len : length l.exchanges.items ≡ l.k;
  room : vec_capacity l.exchanges ≡ vec_capacity l.initial.exchanges;
}
