use Rattle.std.proofs.Common.{◌+◌}
use Rattle.vl_tree.specs.declared.token.Mark.TheVariants as m
use Rattle.vl_tree.specs.View as view
use Rattle.vl_tree.specs.Grammar.{mark, expr_at, condition_at}
use Rattle.vl_module.specs.Reading.{Any, one}
use Rattle.vl_module.specs.Rules.{Ends}
use Rattle.vl_module.proofs.Pieces.{fails, took_lead, no_lead_1, no_lead_2, took_trail, no_trail_1, no_trail_2}
use Rattle.vl_module.proofs.ExprRules.{closed, close_ends}
use Rattle.vl_module.proofs.expr.read_condition.Goals as goal

pub returns-in_err-rest-clause-reads : goal.returns-in_err-rest-clause-reads
returns-in_err-rest-clause-reads c =
    fails (one (mark c.args.depth m.OpenParen)) Any _ view.expr (condition_at c.args.depth) Any _
    (no_lead_1 (mark c.args.depth m.OpenParen) (closed c.args.depth) _) c.in_err-rest.field-0.0 c.in_err-rest.ensures.reads
    c.from_residual.result c.from_residual.ensures.1

pub returns-in_err-condition-clause-reads : goal.returns-in_err-condition-clause-reads
returns-in_err-condition-clause-reads c =
    fails (expr_at (c.args.depth + 1)) Ends _ view.expr (condition_at c.args.depth) Any _
    (λ n. no_lead_2 (mark c.args.depth m.OpenParen) (closed c.args.depth) _ _ c.in_ok-rest.ensures.reads
    (no_trail_1 (expr_at (c.args.depth + 1)) Ends (mark c.args.depth m.CloseParen) (close_ends c.args.depth) _ n)) c.in_err-condition.field-0.0 c.in_err-condition.ensures.reads
    c.from_residual-in_err-condition.result c.from_residual-in_err-condition.ensures.1

pub returns-in_err-rest-2-clause-reads : goal.returns-in_err-rest-2-clause-reads
returns-in_err-rest-2-clause-reads c =
    fails (one (mark c.args.depth m.CloseParen)) Any _ view.expr (condition_at c.args.depth) Any _
    (λ n. no_lead_2 (mark c.args.depth m.OpenParen) (closed c.args.depth) _ _ c.in_ok-rest.ensures.reads
    (no_trail_2 (expr_at (c.args.depth + 1)) Ends (mark c.args.depth m.CloseParen) (close_ends c.args.depth) _ _ _ c.in_ok-condition.ensures.reads n)) c.in_err-rest-2.field-0.0 c.in_err-rest-2.ensures.reads
    c.from_residual-in_err-rest-2.result c.from_residual-in_err-rest-2.ensures.1

pub returns-clause-reads : goal.returns-clause-reads
returns-clause-reads c =
    took_lead (mark c.args.depth m.OpenParen) (closed c.args.depth) _ _ c.in_ok-rest.ensures.reads _ _
    (took_trail (expr_at (c.args.depth + 1)) Ends (mark c.args.depth m.CloseParen) (close_ends c.args.depth) _ _ _ c.in_ok-condition.ensures.reads _ c.in_ok-rest-2.ensures.reads)
