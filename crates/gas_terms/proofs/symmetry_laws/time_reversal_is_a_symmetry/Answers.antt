use Rattle.gas_terms.proofs.Reversal.{backs_reversed, forwards_reversed, run_returns}
use Rattle.gas_terms.proofs.MappedTotals.{total_reversed}
use Rattle.gas_terms.proofs.symmetry_laws.time_reversal_is_a_symmetry.Goals as goal

pub returns-clause-runs : goal.returns-clause-runs
returns-clause-runs c = backs_reversed

pub returns-clause-runs_back : goal.returns-clause-runs_back
returns-clause-runs_back c = forwards_reversed

pub returns-clause-returns : goal.returns-clause-returns
returns-clause-returns c = run_returns

pub returns-clause-sums : goal.returns-clause-sums
returns-clause-sums c = total_reversed
