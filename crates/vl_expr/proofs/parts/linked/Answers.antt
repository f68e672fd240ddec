use Rattle.std.proofs.Common.{rules, ◌≡◌, ◌∙◌, [], ap}
use Rattle.vl_tree.specs.SyntaxView as view
use Rattle.vl_expr.specs.Lists as list
use Rattle.vl_expr.proofs.Views.{expr-linked}
use Rattle.vl_expr.proofs.parts.linked.Goals as goal

pub returns : goal.returns
returns c =
    let h : c.args.links ≡ [] → ⊥ = λ e. search rules in
    let s : c.in_ok-first.first ≡ c.args.first = c.in_ok-first.ensures in
    expr-linked c.in_ok-first.first c.args.links h ∙ ap (λ w. list.linked (view.expr w) (list.links_of c.args.links)) s
