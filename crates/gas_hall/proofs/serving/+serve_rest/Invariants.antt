use Rattle.std.proofs.Common.{vec_len}
use Rattle.gas_hall.proofs.serving.+serve_rest.Given as goal

abbrev pub decreases-serve_rest : goal.decreases-serve_rest
decreases-serve_rest g l = vec_len l.seats.now
