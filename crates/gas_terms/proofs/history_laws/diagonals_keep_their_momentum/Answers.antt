use Rattle.gas_terms.proofs.Diagonals.{diagonal_later, diagonal_earlier}
use Rattle.gas_terms.proofs.history_laws.diagonals_keep_their_momentum.Goals as goal

pub returns-clause-forth : goal.returns-clause-forth
returns-clause-forth c = diagonal_later

pub returns-clause-back : goal.returns-clause-back
returns-clause-back c = diagonal_earlier
