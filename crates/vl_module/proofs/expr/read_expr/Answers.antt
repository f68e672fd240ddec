use Rattle.vl_tree.specs.View as view
use Rattle.vl_tree.specs.Grammar.{primary_at, expr_at}
use Rattle.vl_module.specs.Reading.{Any}
use Rattle.vl_module.specs.Rules.{Ends}
use Rattle.vl_module.proofs.Pieces.{fails}
use Rattle.vl_module.proofs.ExprRules.{primary_took, expr_none}
use Rattle.vl_module.proofs.expr.read_expr.Goals as goal

pub returns-in_err-left-clause-reads : goal.returns-in_err-left-clause-reads
returns-in_err-left-clause-reads c =
    fails (primary_at c.args.depth) Any _ view.expr (expr_at c.args.depth) Ends _ (expr_none c.args.depth _ c.in_default.ensures.reads) c.in_err-left.field-0.0 c.in_err-left.ensures.reads
    c.from_residual-in_err-left.result c.from_residual-in_err-left.ensures.1

pub returns-clause-reads : goal.returns-clause-reads
returns-clause-reads c =
    primary_took c.args.depth _ c.in_default.ensures.reads (view.primary c.in_ok-left.left) _ c.in_ok-left.ensures.reads c.in_default-first_binary.ensures.reads
