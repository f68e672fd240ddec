use Rattle.vl_sight.specs.Levels.{HoldNames}
use Rattle.vl_sight.proofs.sights.Sights.new.Given as goal

-- the names of the scopes before
abbrev pub invariant-loop-scope : goal.invariant-loop-scope
invariant-loop-scope l = HoldNames l.scopes l.levels.items l.scope-index
