use Rattle.gas_terms.proofs.MappedTotals.{total_translated}
use Rattle.gas_terms.proofs.Translations.{translation_symmetry, translated_there}
use Rattle.gas_terms.proofs.symmetry_laws.translations_are_symmetries.Goals as goal

pub returns-clause-runs : goal.returns-clause-runs
returns-clause-runs c = translation_symmetry

pub returns-clause-cells : goal.returns-clause-cells
returns-clause-cells c = translated_there

pub returns-clause-sums : goal.returns-clause-sums
returns-clause-sums c = total_translated
