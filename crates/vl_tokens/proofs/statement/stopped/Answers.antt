use Rattle.std.proofs.Common.{refl, sym, ap, ◌∙◌}
use Rattle.vl_tree.specs.SyntaxView as view
use Rattle.vl_tokens.specs.Counted.{capped, expr_tokens}
use Rattle.vl_tokens.specs.Statements.{stopped_tokens}
use Rattle.vl_tokens.proofs.Counting.{sums}
use Rattle.vl_tokens.proofs.StatementParts.{argument_tokens}
use Rattle.vl_tokens.proofs.statement.stopped.Goals as goal

pub returns-in-Argument : goal.returns-in-Argument
returns-in-Argument c =
    sums 2 (expr_tokens (view.expr c.in-Argument.e)) c.plus.ensures refl c.expr.ensures
    ∙ ap capped (sym (ap (λ y. stopped_tokens (view.stopped y)) c.in-Argument.is ∙ argument_tokens (view.expr c.in-Argument.e)))
