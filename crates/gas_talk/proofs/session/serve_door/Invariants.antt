use Rattle.gas_talk.proofs.session.serve_door.Given as goal

abbrev pub ghosts-serve_counted : goal.ghosts-serve_counted
ghosts-serve_counted g a = record { name = a.blank.name; parts = a.blank.parts }
