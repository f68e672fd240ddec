use Rattle.std.proofs.Common.{◌≡◌, ℕ, List, ◌++◌, drop}
use Rattle.dt_core.specs.declared.limits.TheConstants.{MAX_WORDS}
use Rattle.vl_tree.specs.Syntax.{Place}
use Rattle.vl_design.specs.Lists.{each_of}
use Rattle.vl_design.specs.Scopes.{Scope}
use Rattle.vl_design.specs.ObjectFaults.{beyond, words_of}
use Rattle.vl_limits.specs.Counting.{further}
use Rattle.vl_scopes.specs.Plain.{plain_scopes, scopes_after}
use Rattle.vl_scope_faults.proofs.words_fault.Given as goal

-- the scopes before, whose words were added
abbrev pub invariant-loop-scope : goal.invariant-loop-scope
invariant-loop-scope l = (before : List Scope)
    × (scopes_after before (drop l.scope-index l.scopes) ≡ plain_scopes l.scopes)
    × ((cs : List (Place × ℕ)) → further l.limit cs ≡ beyond MAX_WORDS 0 (each_of words_of before ++ cs))
