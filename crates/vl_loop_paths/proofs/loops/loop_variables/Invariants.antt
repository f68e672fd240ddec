use Rattle.vl_scopes.specs.Plain.{plain_scopes}
use Rattle.vl_loop_paths.proofs.Passed.{Front, HoldsBefore}
use Rattle.vl_loop_paths.proofs.loops.loop_variables.Given as goal

-- the scopes before, whose loop variables were added
abbrev pub invariant-loop-k : goal.invariant-loop-k
invariant-loop-k l = (f : Front l.scopes l.k) × HoldsBefore l.numbers l.loops (plain_scopes l.scopes) f.before
