use Rattle.gas_terms.proofs.MappedTotals.{total_mirrored, total_upside_down, total_transposed}
use Rattle.gas_terms.proofs.Mirrors.{mirror_symmetry, upside_down_symmetry, transposed_symmetry}
use Rattle.gas_terms.proofs.symmetry_laws.mirrors_are_symmetries.Goals as goal

pub returns-clause-mirror : goal.returns-clause-mirror
returns-clause-mirror c = mirror_symmetry

pub returns-clause-flip : goal.returns-clause-flip
returns-clause-flip c = upside_down_symmetry

pub returns-clause-turn : goal.returns-clause-turn
returns-clause-turn c = transposed_symmetry

pub returns-clause-mirrored_sums : goal.returns-clause-mirrored_sums
returns-clause-mirrored_sums c = total_mirrored

pub returns-clause-flipped_sums : goal.returns-clause-flipped_sums
returns-clause-flipped_sums c = total_upside_down

pub returns-clause-turned_sums : goal.returns-clause-turned_sums
returns-clause-turned_sums c = total_transposed
