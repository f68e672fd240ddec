use Rattle.std.proofs.Common.{◌+◌, ◌++◌, ◌∷◌, drop, map, append-nil, sym, ap, ◌∙◌}
use Rattle.std.proofs.lemmas.List.{drop_more, drop_all}
use Rattle.vl_tree.specs.SyntaxView as view
use Rattle.vl_parameters.proofs.Adding.{some_on}
use Rattle.vl_design.specs.Clocks.{by_names}
use Rattle.vl_joins.specs.Joins.{plain_join, joins_of, joins_bound}
use Rattle.vl_joins.proofs.Joining.{bound_on}
use Rattle.vl_joins.proofs.by_name.Goals as goal

pub loop-bind-preserved : goal.loop-bind-preserved
loop-bind-preserved c =
    let bs = c.args.binds.now in let k = c.loop-bind.bind-index in let b = c.bind-item.result in
    let old = map plain_join c.loop-bind.joins.items in let rest = map view.named_bind (drop (k + 1) bs) in
    some_on old _ (joins_bound (view.named_bind b)) (joins_of (by_names rest)) _
    (c.in_ok-push.ensures ∙ ap (λ js. old ++ js) c.join_by.ensures)
    (ap (λ js. old ++ js) (sym (bound_on (view.named_bind b) rest))
    ∙ ap (λ cs. old ++ joins_of (by_names cs))
    (sym (ap (map view.named_bind) (drop_more bs k b c.loop-bind-test.true) ∙ ap (λ y. view.named_bind y ∷ rest) (sym c.bind-item.is)))
    ∙ c.loop-bind.invariant)

pub returns : goal.returns
returns c =
    let k = c.loop-bind.bind-index in let old = map plain_join c.loop-bind.joins.items in
    sym (append-nil old)
    ∙ ap (λ bs. old ++ joins_of (by_names (map view.named_bind bs))) (sym (drop_all k c.args.binds.now c.loop-bind-test.false))
    ∙ c.loop-bind.invariant
