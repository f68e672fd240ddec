use Rattle.std.proofs.Common.{rules, ◌≡◌, ◌∙◌, [], ap}
use Rattle.vl_tree.specs.SyntaxView as view
use Rattle.vl_expr.specs.Lists as list
use Rattle.vl_expr.proofs.Views.{expr-chosen}
use Rattle.vl_expr.proofs.parts.chosen.Goals as goal

pub returns : goal.returns
returns c =
    let h : c.args.choices ≡ [] → ⊥ = λ e. search rules in
    let s : c.in_ok-last.last ≡ c.args.last = c.in_ok-last.ensures in
    expr-chosen c.args.choices c.in_ok-last.last h ∙ ap (λ w. list.chosen (list.choices_of c.args.choices) (view.expr w)) s
