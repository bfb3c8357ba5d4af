use Rattle.std.proofs.Common.{rules, ap}
use Rattle.gas_terms.specs.Cells.{extent}
use Rattle.gas_talk.proofs.Sequential.{start_stays}
use Rattle.gas_talk.proofs.alone.AloneDoor.ask.Goals as goal

pub returns-clause-size : goal.returns-clause-size
returns-clause-size g c = ap (λ start. extent start.particles) (start_stays _ _ _ _ c.apply.ensures.applied)

pub returns-clause-asked : goal.returns-clause-asked
returns-clause-asked g c = search rules
