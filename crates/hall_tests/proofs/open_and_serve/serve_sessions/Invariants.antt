use Rattle.gas_terms.specs.Cells.{extent}
use Rattle.hall_tests.proofs.open_and_serve.serve_sessions.Given as goal

abbrev pub ghosts-serve_named-N-Ledger : goal.ghosts-serve_named-N-Ledger
ghosts-serve_named-N-Ledger g a = record { name = a.blank.name; parts = a.blank.parts }

abbrev pub ghosts-serve_named-N-HallName : goal.ghosts-serve_named-N-HallName
ghosts-serve_named-N-HallName g a = record { size = extent a.lab.start.particles; cap = a.lab.cap }
