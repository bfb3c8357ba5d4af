use Rattle.std.proofs.Common.{◌≡◌, ◌*◌, ◌≤◌}
use Rattle.block_rule.specs.Classes.{particles_among}
use Rattle.block_rule.proofs.count.count_class.Given as goal

abbrev pub invariant-loop-k : goal.invariant-loop-k
invariant-loop-k l = record { count : l.n ≡ particles_among l.cells l.places (2 * l.k); bound : l.n ≤ 64 * l.k }
