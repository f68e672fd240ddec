use Rattle.window_tests.proofs.runs.a_window_is_reached_by_going_back.Given as goal

abbrev pub ghosts-has_window : goal.ghosts-has_window
ghosts-has_window g a = record { name = a.blank.name; parts = a.blank.parts }
