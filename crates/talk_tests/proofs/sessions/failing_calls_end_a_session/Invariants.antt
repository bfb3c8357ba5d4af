use Rattle.talk_tests.proofs.sessions.failing_calls_end_a_session.Given as goal

abbrev pub ghosts-answered_in_part : goal.ghosts-answered_in_part
ghosts-answered_in_part g a = record { name = a.blank.name; parts = a.blank.parts }
