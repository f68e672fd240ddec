use Rattle.vl_sight.proofs.Standing.{names_more, names_none}
use Rattle.vl_sight.proofs.sights.Sights.new.Goals as goal

pub loop-scope-init : goal.loop-scope-init
loop-scope-init c = names_none c.args.scopes.now _ c.new-levels.ensures.items

pub loop-scope-preserved : goal.loop-scope-preserved
loop-scope-preserved c =
    names_more c.args.scopes.now _ _ c.loop-scope.scope-index c.scope-item.result c.in_ok-names.names c.in_ok-push.ensures
    c.loop-scope-test.true c.scope-item.is c.in_ok-names.ensures c.loop-scope.invariant
