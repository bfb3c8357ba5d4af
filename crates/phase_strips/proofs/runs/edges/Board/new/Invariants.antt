use Rattle.std.proofs.Common.{◌≡◌, length}
use Rattle.std.specs.Vec.{vec_capacity}
use Rattle.phase_strips.proofs.runs.edges.Board.new.Given as goal

abbrev pub invariant-loop : goal.invariant-loop
invariant-loop g l = record {
  len : length l.edges.items ≡ l.counter;
  room : vec_capacity l.edges ≡ l.count;
}
