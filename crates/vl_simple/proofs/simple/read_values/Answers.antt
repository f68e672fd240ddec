use Rattle.std.proofs.Common.{◌≡◌, ◌∷◌, [], ◌++◌, arith}
use Rattle.std.proofs.lemmas.Result.{err_from_is_err_and}
use Rattle.vl_tree.specs.Syntax.{no_expr, more_expr}
use Rattle.vl_tree.specs.SyntaxView as plain
use Rattle.vl_expr.proofs.Commas as rule
use Rattle.vl_simple.proofs.Views as view
use Rattle.vl_simple.proofs.simple.read_values.Goals as goal

pub returns-in-None-clause-reads : goal.returns-in-None-clause-reads
returns-in-None-clause-reads c =
    rw (← view.exprs_on-none c.loop-all.all)
    (c.loop-all.invariant.took no_expr _ (rule.more_none c.args.depth c.loop-all.rest c.in-None.ensures.reads))

pub returns-in_err-expr-in-Some-clause-reads : goal.returns-in_err-expr-in-Some-clause-reads
returns-in_err-expr-in-Some-clause-reads c =
    let p = err_from_is_err_and c.from_residual.result c.from_residual.ensures.1 in
    rw (p.1, p.2) (c.loop-all.invariant.fails c.in_err-expr-in-Some.field-0.0
    (rule.more_fails c.args.depth _ c.requires.low c.loop-all.rest _ c.in-Some.ensures.reads
    c.in_err-expr-in-Some.field-0.0 c.in_err-expr-in-Some.ensures.reads))

pub loop-all-preserved : goal.loop-all-preserved
loop-all-preserved c =
    let l0 = rule.more_next c.args.depth _ c.requires.low c.loop-all.rest _ c.in-Some.ensures.reads _ _ c.in_ok-expr-in-Some.ensures.reads in
    let e : c.push.new.self ≡ c.loop-all.all ++ c.in_ok-expr-in-Some.expr ∷ [] = c.in_ok-push-in-Some.ensures.ok in
    record {
      took = λ es rest p. rw (e, view.exprs_on-one)
          (c.loop-all.invariant.took (more_expr (plain.expr c.in_ok-expr-in-Some.expr) es) rest (l0.took es rest p));
      fails = λ e r. c.loop-all.invariant.fails e (l0.fails e r);
      shorter = omega (arith, c.in-Some.ensures.shorter, c.in_ok-expr-in-Some.ensures.shorter, c.loop-all.invariant.shorter);
    }
