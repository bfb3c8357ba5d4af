use Rattle.gas_terms.specs.Cells.{extent}
use Rattle.hall_tests.proofs.doors.two_sessions_take_turns.Given as goal

abbrev pub ghosts-both-N-Ledger : goal.ghosts-both-N-Ledger
ghosts-both-N-Ledger g a = record { name = a.blank.name; parts = a.blank.parts }

abbrev pub ghosts-both-N-HallName : goal.ghosts-both-N-HallName
ghosts-both-N-HallName g a = record { size = extent a.lab.start.particles; cap = a.lab.cap }
