use Rattle.std.proofs.Common.{take, map}
use Rattle.vl_design.specs.Lists.{each_of}
use Rattle.vl_loops.specs.Loops.{plain_loops}
use Rattle.vl_scopes.specs.Plain.{plain_scopes}
use Rattle.vl_loop_paths.specs.Adding.{AddsPaths, looped_at}
use Rattle.vl_loop_paths.proofs.loops.add_scope.Given as goal

-- those of the processes and functions before
abbrev pub invariant-loop-one : goal.invariant-loop-one
invariant-loop-one l = AddsPaths l.numbers (plain_scopes l.scopes)
    (each_of (looped_at (plain_scopes l.scopes) l.from) (map plain_loops (take l.one-index l.one-items))) l.fn.loops l.loops
