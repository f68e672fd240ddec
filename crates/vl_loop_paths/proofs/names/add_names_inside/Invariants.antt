use Rattle.std.proofs.Common.{take}
use Rattle.vl_design.specs.LoopVariables.{paths_in}
use Rattle.vl_loops.specs.Statements.{texts}
use Rattle.vl_scopes.specs.Plain.{plain_scopes}
use Rattle.vl_sight.specs.Seen.{sight_inside}
use Rattle.vl_loop_paths.specs.Adding.{AddsPaths}
use Rattle.vl_loop_paths.proofs.names.add_names_inside.Given as goal

-- those of the names before
abbrev pub invariant-loop-name : goal.invariant-loop-name
invariant-loop-name l = AddsPaths l.numbers (plain_scopes l.scopes)
    (paths_in (sight_inside (plain_scopes l.scopes) l.from l.function) (texts (take l.name-index l.names))) l.fn.loops l.loops
