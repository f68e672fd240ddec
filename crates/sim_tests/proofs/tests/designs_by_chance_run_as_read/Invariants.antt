use Rattle.sim_tests.proofs.tests.designs_by_chance_run_as_read.Given as goal

abbrev pub ghosts-all_run_as_read : goal.ghosts-all_run_as_read
ghosts-all_run_as_read g a = record { name = a.blank.name; parts = a.blank.parts }
