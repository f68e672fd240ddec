use Rattle.std.proofs.Common.{◌<◌, List, length, subst, ◌∙◌}
use Rattle.std.specs.Prelude.{IfSome}
use Rattle.vl_tree.specs.Tree.{Port}
use Rattle.vl_scope.proofs.Places.{place_within}
use Rattle.vl_scope.proofs.scope.Scope.find.Goals as goal

pub returns-clause-within : goal.returns-clause-within
returns-clause-within c =
    subst (λ (ps : List Port). IfSome c.copied.result (λ n. n < length ps)) c.self.view_is
    (place_within c.self.inside.ports.now c.args.name.now c.copied.result (c.copied.ensures ∙ c.get.ensures.value ∙ c.self.invariant.0 c.args.name.now))
