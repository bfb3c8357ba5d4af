use Rattle.gas_snapshot.proofs.GasLaws.{same_gas, same_version}
use Rattle.gas_snapshot.proofs.laws.bytes_spell_one_gas.Goals as goal

pub returns-clause-gas : goal.returns-clause-gas
returns-clause-gas c = same_gas

pub returns-clause-version : goal.returns-clause-version
returns-clause-version c = same_version
