use Rattle.gas_terms.specs.Cells.{extent}
use Rattle.hall_tests.proofs.refused.refused_memory_leaves_the_laboratory.Given as goal

abbrev pub ghosts-open_and_use-N-Ledger : goal.ghosts-open_and_use-N-Ledger
ghosts-open_and_use-N-Ledger g a = record { name = a.blank.name; parts = a.blank.parts }

abbrev pub ghosts-open_and_use-N-HallName : goal.ghosts-open_and_use-N-HallName
ghosts-open_and_use-N-HallName g a = record { size = extent a.lab.start.particles; cap = a.lab.cap }
