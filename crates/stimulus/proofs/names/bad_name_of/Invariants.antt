-- No name so far is bad.
use Rattle.std.proofs.Common.{◌≡◌, [], take, drop}
use Rattle.stimulus.specs.Stimulus.{bad_name}
use Rattle.stimulus.specs.Calls.Names.{shown}
use Rattle.stimulus.proofs.names.bad_name_of.Given as goal

abbrev pub invariant-loop-place : goal.invariant-loop-place
invariant-loop-place l = bad_name l.inputs (shown (take l.place l.names)) (shown (drop l.place l.names)) ≡ bad_name l.inputs [] (shown l.names)
