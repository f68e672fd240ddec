use Rattle.window_tests.proofs.runs.nothing_fires_in_nine_rows.Given as goal

abbrev pub ghosts-is_quiet : goal.ghosts-is_quiet
ghosts-is_quiet g a = record { name = a.blank.name; parts = a.blank.parts }
