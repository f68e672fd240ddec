use Rattle.step_program.specs.Plan.{IsReady, held}
use Rattle.step_tests.proofs.chain.a_program_runs_again.Given as goal

abbrev pub invariant-loop-x : goal.invariant-loop-x
invariant-loop-x g l = IsReady l.program (held l.slots)
