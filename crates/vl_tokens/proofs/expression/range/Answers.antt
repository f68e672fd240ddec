use Rattle.std.proofs.Common.{◌+◌, refl, sym, ap, ◌∙◌}
use Rattle.vl_tree.specs.SyntaxView as view
use Rattle.vl_tokens.specs.Counted.{capped, expr_tokens}
use Rattle.vl_tokens.proofs.Counting.{sums}
use Rattle.vl_tokens.proofs.Parts.{bounds_tokens}
use Rattle.vl_tokens.proofs.expression.range.Goals as goal

pub returns : goal.returns
returns c =
    let r = c.args.declared.now in
    sums (expr_tokens (view.expr r.left)) (3 + expr_tokens (view.expr r.right)) c.plus.ensures c.expr-2.ensures
    (sums 3 (expr_tokens (view.expr r.right)) c.plus-right.ensures refl c.expr.ensures)
    ∙ ap capped (sym (bounds_tokens (view.range r)))
