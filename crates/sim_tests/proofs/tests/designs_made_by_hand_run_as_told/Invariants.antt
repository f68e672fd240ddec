use Rattle.sim_tests.proofs.tests.designs_made_by_hand_run_as_told.Given as goal

abbrev pub ghosts-all_run_as_told : goal.ghosts-all_run_as_told
ghosts-all_run_as_told g a = record { name = a.blank.name; parts = a.blank.parts }
