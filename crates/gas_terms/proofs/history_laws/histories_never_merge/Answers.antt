use Rattle.gas_terms.proofs.Histories.{was_same, stays_same, origin_leads, origin_fits}
use Rattle.gas_terms.proofs.history_laws.histories_never_merge.Goals as goal

pub returns-clause-before : goal.returns-clause-before
returns-clause-before c = was_same

pub returns-clause-after : goal.returns-clause-after
returns-clause-after c = stays_same

pub returns-clause-reached : goal.returns-clause-reached
returns-clause-reached c = origin_leads

pub returns-clause-origins : goal.returns-clause-origins
returns-clause-origins c = origin_fits
