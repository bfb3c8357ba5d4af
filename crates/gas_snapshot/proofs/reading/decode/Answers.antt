use Rattle.std.proofs.Common.{Result, subst, arith}
use Rattle.gas_terms.specs.Gas.{Gas}
use Rattle.gas_snapshot.specs.declared.fault.SnapFault.{SnapFault}
use Rattle.gas_snapshot.specs.Reading.{Gives}
use Rattle.gas_snapshot.proofs.GasLaws.{is_found, reading_spelled}
use Rattle.gas_snapshot.proofs.reading.decode.Goals as goal

pub returns-clause-found : goal.returns-clause-found
returns-clause-found c = is_found c.args.bytes.now c.gas_in.result (λ i. omega (arith, c.type_inv.bytes i)) c.gas_in.ensures

pub returns-clause-only : goal.returns-clause-only
returns-clause-only c = λ g spelled. subst (λ (r : Result Gas SnapFault). Gives c.gas_in.result r) (reading_spelled c.args.bytes.now g spelled) c.gas_in.ensures
