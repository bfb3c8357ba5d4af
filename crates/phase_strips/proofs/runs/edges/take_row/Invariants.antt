use Rattle.std.proofs.Common.{◌≡◌}
use Rattle.phase_strips.proofs.runs.edges.take_row.Given as goal

abbrev pub invariant-loop-looks : goal.invariant-loop-looks
invariant-loop-looks g l = record { same : l.cells ≡ l.initial.cells }
