use Rattle.std.proofs.Common.{◌≡◌, List, drop}
use Rattle.vl_design.specs.Scopes.{Scope}
use Rattle.vl_scopes.specs.Plain.{plain_scopes, scopes_after}
use Rattle.vl_paths.specs.Numbers.{AreNumbers}
use Rattle.vl_paths.proofs.numbers.PathNumbers.new.Given as goal

-- the scopes that have a number
abbrev pub invariant-loop-scope : goal.invariant-loop-scope
invariant-loop-scope l = (before : List Scope)
    × (scopes_after before (drop l.scope-index l.scopes) ≡ plain_scopes l.scopes)
    × AreNumbers l.numbers before
