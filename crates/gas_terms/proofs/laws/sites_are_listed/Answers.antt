use Rattle.gas_terms.proofs.Distinct.{sites_differ}
use Rattle.gas_terms.proofs.Listed.{listed_is_site, site_is_listed}
use Rattle.gas_terms.proofs.laws.sites_are_listed.Goals as goal

pub returns-clause-only : goal.returns-clause-only
returns-clause-only c = listed_is_site

pub returns-clause-each : goal.returns-clause-each
returns-clause-each c = site_is_listed

pub returns-clause-once : goal.returns-clause-once
returns-clause-once c = sites_differ
