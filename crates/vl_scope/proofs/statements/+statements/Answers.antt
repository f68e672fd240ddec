use Rattle.std.proofs.Common.{ap, refl, sym, ◌∙◌}
use Rattle.vl_tree.specs.View as view
use Rattle.vl_meaning.specs.Faults as faults
use Rattle.vl_scope.proofs.Rests.{passed_on, failed_at, both_pass, first_fails, second_fails}
use Rattle.vl_scope.proofs.Views.{stmts-drop, branches-drop, block_is, conditional_is, without_else, with_else}
use Rattle.vl_scope.proofs.statements.+statements.Goals as goal

pub are_stmts-loop-stmt-preserved : goal.are_stmts-loop-stmt-preserved
are_stmts-loop-stmt-preserved t c =
    passed_on _ _ _ _ c.if-not-is_stmt.ensures (ap (faults.are_stmts (view.module_of c.args.top.now)) (stmts-drop _ _ _ c.loop-stmt-test.true c.stmt-item.is)) c.loop-stmt.invariant

pub are_stmts-returns-then-not-is_stmt : goal.are_stmts-returns-then-not-is_stmt
are_stmts-returns-then-not-is_stmt t c =
    failed_at _ _ _ _ c.if-not-is_stmt.ensures (ap (faults.are_stmts (view.module_of c.args.top.now)) (stmts-drop _ _ _ c.loop-stmt-test.true c.stmt-item.is)) c.loop-stmt.invariant

pub are_branches-loop-branch-preserved : goal.are_branches-loop-branch-preserved
are_branches-loop-branch-preserved t c =
    passed_on _ _ _ _ (both_pass _ _ c.if-not-is_expr.ensures c.if-not-is_stmt.ensures)
    (ap (faults.are_branches (view.module_of c.args.top.now)) (branches-drop _ _ _ c.loop-branch-test.true c.branch-item.is)) c.loop-branch.invariant

pub are_branches-returns-then-not-is_expr : goal.are_branches-returns-then-not-is_expr
are_branches-returns-then-not-is_expr t c =
    failed_at _ _ _ _ (first_fails _ (faults.is_stmt (view.module_of c.args.top.now) (view.stmt c.branch-item.result.body)) c.if-not-is_expr.ensures)
    (ap (faults.are_branches (view.module_of c.args.top.now)) (branches-drop _ _ _ c.loop-branch-test.true c.branch-item.is)) c.loop-branch.invariant

pub are_branches-returns-then-not-is_stmt : goal.are_branches-returns-then-not-is_stmt
are_branches-returns-then-not-is_stmt t c =
    failed_at _ _ _ _ (second_fails _ _ c.if-not-is_expr.ensures c.if-not-is_stmt.ensures)
    (ap (faults.are_branches (view.module_of c.args.top.now)) (branches-drop _ _ _ c.loop-branch-test.true c.branch-item.is)) c.loop-branch.invariant

pub is_stmt-returns-in-Block : goal.is_stmt-returns-in-Block
is_stmt-returns-in-Block t c = c.are_stmts.ensures ∙ sym (ap (faults.is_stmt (view.module_of c.args.top.now)) (block_is _ _ _ c.in-Block.is c.as_slice.ensures))

pub is_stmt-returns-then-not-are_branches : goal.is_stmt-returns-then-not-are_branches
is_stmt-returns-then-not-are_branches t c =
    failed_at _ _ _ _ c.if-not-are_branches.ensures (ap (faults.is_stmt (view.module_of c.args.top.now)) (conditional_is _ _ _ _ c.in-Conditional.is c.as_slice-in-Conditional.ensures)) refl

pub is_stmt-returns-in-None : goal.is_stmt-returns-in-None
is_stmt-returns-in-None t c =
    passed_on _ _ _ _ c.if-not-are_branches.ensures
    (ap (faults.is_stmt (view.module_of c.args.top.now)) (without_else _ _ _ _ c.in-Conditional.is c.as_slice-in-Conditional.ensures c.in-None.is)) refl

pub is_stmt-returns-in-Some : goal.is_stmt-returns-in-Some
is_stmt-returns-in-Some t c =
    c.is_stmt.ensures ∙ passed_on _ _ _ _ c.if-not-are_branches.ensures
    (ap (faults.is_stmt (view.module_of c.args.top.now)) (with_else _ _ _ _ _ _ c.in-Conditional.is c.as_slice-in-Conditional.ensures c.in-Some.is c.get.ensures)) refl
