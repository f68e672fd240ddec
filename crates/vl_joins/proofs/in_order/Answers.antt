use Rattle.std.proofs.Common.{◌+◌, ◌++◌, ◌∷◌, drop, map, append-nil, sym, ap, ◌∙◌}
use Rattle.std.proofs.lemmas.List.{drop_more, drop_all}
use Rattle.vl_tree.specs.SyntaxView as view
use Rattle.vl_width.specs.Lists.{exprs_of}
use Rattle.vl_parameters.proofs.Adding.{some_on}
use Rattle.vl_design.specs.Clocks.{in_order}
use Rattle.vl_joins.specs.Joins.{plain_join, joins_of, joins_at}
use Rattle.vl_joins.proofs.Joining.{in_order_on, behind-drop}
use Rattle.vl_joins.proofs.in_order.Goals as goal

pub loop-k-preserved : goal.loop-k-preserved
loop-k-preserved c =
    let ps = c.args.ports.now in let es = c.args.all.now in let k = c.loop-k.k in let p = c.index-ports-k.result in
    let old = map plain_join c.loop-k.joins.items in let rest = map view.port (drop (k + 1) ps) in
    some_on old _ (joins_at (view.port p) (exprs_of (drop k es))) (joins_of (in_order rest (exprs_of (drop (k + 1) es)))) _
    (c.in_ok-push.ensures ∙ ap (λ js. old ++ js) c.join_at.ensures)
    (ap (λ y. old ++ (joins_at (view.port p) (exprs_of (drop k es)) ++ joins_of (in_order rest y))) (sym (behind-drop es k))
    ∙ ap (λ js. old ++ js) (sym (in_order_on (view.port p) rest (exprs_of (drop k es))))
    ∙ ap (λ qs. old ++ joins_of (in_order qs (exprs_of (drop k es))))
    (sym (ap (map view.port) (drop_more ps k p c.loop-k-test.true) ∙ ap (λ y. view.port y ∷ rest) (sym c.index-ports-k.is)))
    ∙ c.loop-k.invariant)

pub returns : goal.returns
returns c =
    let k = c.loop-k.k in let old = map plain_join c.loop-k.joins.items in
    sym (append-nil old)
    ∙ ap (λ qs. old ++ joins_of (in_order (map view.port qs) (exprs_of (drop k c.args.all.now)))) (sym (drop_all k c.args.ports.now c.loop-k-test.false))
    ∙ c.loop-k.invariant
