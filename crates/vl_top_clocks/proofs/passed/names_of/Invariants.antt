use Rattle.std.proofs.Common.{◌≡◌, List, take, map}
use Rattle.vl_clocks.specs.Names.{texts}
use Rattle.vl_joins.specs.Joins.{plain_join}
use Rattle.vl_scopes.specs.Plain.{plain_scopes}
use Rattle.vl_scopes.specs.declared.scope.Scope as code
use Rattle.vl_sight.specs.Levels.{HoldsSights}
use Rattle.vl_top_clocks.specs.Passing.{names_at}
use Rattle.vl_top_clocks.proofs.passed.names_of.Given as goal

-- the names of the joins before
abbrev pub invariant-loop-join : goal.invariant-loop-join
invariant-loop-join l = (cs : List code.Scope) → HoldsSights cs l.sights
    → texts l.names.items ≡ names_at (plain_scopes cs) l.number l.path l.clocks (map plain_join (take l.join-index l.all))
