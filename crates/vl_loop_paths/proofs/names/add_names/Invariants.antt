use Rattle.std.proofs.Common.{take, Some}
use Rattle.vl_design.specs.LoopVariables.{paths_in}
use Rattle.vl_design.specs.Objects.{sight}
use Rattle.vl_loops.specs.Statements.{texts}
use Rattle.vl_scopes.specs.Plain.{levels_at, plain_scopes}
use Rattle.vl_loop_paths.specs.Adding.{AddsPaths}
use Rattle.vl_loop_paths.proofs.names.add_names.Given as goal

-- those of the names before
abbrev pub invariant-loop-name : goal.invariant-loop-name
invariant-loop-name l = AddsPaths l.numbers (plain_scopes l.scopes)
    (paths_in (sight (levels_at (plain_scopes l.scopes) (Some l.from))) (texts (take l.name-index l.names))) l.fn.loops l.loops
