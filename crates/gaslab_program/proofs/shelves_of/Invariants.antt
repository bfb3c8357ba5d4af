use Rattle.std.proofs.Common.{◌≡◌, vec_len}
use Rattle.gaslab_program.proofs.shelves_of.Given as goal

abbrev pub invariant-loop-seat : goal.invariant-loop-seat
invariant-loop-seat g l = vec_len l.shelves ≡ l.seat
