use Rattle.std.proofs.Common.{◌+◌, refl, sym, ap, ◌∙◌}
use Rattle.vl_tree.specs.SyntaxView as view
use Rattle.vl_tokens.specs.Counted.{capped, expr_tokens}
use Rattle.vl_tokens.proofs.Counting.{sums}
use Rattle.vl_tokens.proofs.StatementParts.{header_tokens}
use Rattle.vl_tokens.proofs.statement.header.Goals as goal

pub returns : goal.returns
returns c =
    let l = c.args.parts.now in
    let a = expr_tokens (view.expr l.first) in let b = expr_tokens (view.expr l.condition) in let d = expr_tokens (view.expr l.step) in
    sums a (b + (8 + d)) c.plus.ensures c.expr-3.ensures (sums b (8 + d) c.plus-rest.ensures c.expr-2.ensures (sums 8 d c.plus-last.ensures refl c.expr.ensures))
    ∙ ap capped (sym (header_tokens (view.loop l)))
