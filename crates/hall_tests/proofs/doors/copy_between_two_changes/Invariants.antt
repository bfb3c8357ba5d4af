use Rattle.gas_terms.specs.Cells.{extent}
use Rattle.hall_tests.proofs.doors.copy_between_two_changes.Given as goal

abbrev pub ghosts-copied_between-N-Ledger : goal.ghosts-copied_between-N-Ledger
ghosts-copied_between-N-Ledger g a = record { name = a.blank.name; parts = a.blank.parts }

abbrev pub ghosts-copied_between-N-HallName : goal.ghosts-copied_between-N-HallName
ghosts-copied_between-N-HallName g a = record { size = extent a.lab.start.particles; cap = a.lab.cap }
