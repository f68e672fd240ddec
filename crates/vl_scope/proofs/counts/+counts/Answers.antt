use Rattle.std.proofs.Common.{◌≡◌, Some, ap, refl, sym, ◌∙◌, add-zero}
use Rattle.vl_tree.specs.View as view
use Rattle.vl_meaning.specs.Faults as faults
use Rattle.vl_scope.specs.Left.{left_after}
use Rattle.vl_scope.proofs.LeftLaws.{counted_on, counted_out}
use Rattle.vl_scope.proofs.Views.{stmts-drop, branches-drop, block_is, conditional_is, without_else, with_else}
use Rattle.vl_scope.proofs.counts.+counts.Goals as goal

pub count_stmts-loop-stmt-preserved : goal.count_stmts-loop-stmt-preserved
count_stmts-loop-stmt-preserved t c =
    counted_on _ _ _ _ _ _ c.in_ok-left.ensures (ap faults.stmts_count (stmts-drop _ _ _ c.loop-stmt-test.true c.stmt-item.is)) c.loop-stmt.invariant

pub count_stmts-returns-in_err-left : goal.count_stmts-returns-in_err-left
count_stmts-returns-in_err-left t c =
    c.from_residual.ensures ∙ counted_out _ _ _ _ _ c.in_err-left.ensures (ap faults.stmts_count (stmts-drop _ _ _ c.loop-stmt-test.true c.stmt-item.is)) c.loop-stmt.invariant

pub count_branches-loop-branch-preserved : goal.count_branches-loop-branch-preserved
count_branches-loop-branch-preserved t c =
    counted_on _ _ _ _ _ _ c.in_ok-left.ensures refl
    (counted_on _ _ _ _ _ _ c.in_ok-take_one.ensures (ap faults.branches_count (branches-drop _ _ _ c.loop-branch-test.true c.branch-item.is)) c.loop-branch.invariant)

pub count_branches-returns-in_err-take_one : goal.count_branches-returns-in_err-take_one
count_branches-returns-in_err-take_one t c =
    c.from_residual.ensures ∙ counted_out _ _ _ _ _ c.in_err-take_one.ensures (ap faults.branches_count (branches-drop _ _ _ c.loop-branch-test.true c.branch-item.is)) c.loop-branch.invariant

pub count_branches-returns-in_err-left : goal.count_branches-returns-in_err-left
count_branches-returns-in_err-left t c =
    c.from_residual-in_err-left.ensures ∙ counted_out _ _ _ _ _ c.in_err-left.ensures refl
    (counted_on _ _ _ _ _ _ c.in_ok-take_one.ensures (ap faults.branches_count (branches-drop _ _ _ c.loop-branch-test.true c.branch-item.is)) c.loop-branch.invariant)

pub count_stmt-returns-in_ok-take_one-in-Block : goal.count_stmt-returns-in_ok-take_one-in-Block
count_stmt-returns-in_ok-take_one-in-Block t c =
    c.count_stmts.ensures ∙ counted_on _ _ _ _ _ _ c.in_ok-take_one-in-Block.ensures (ap faults.stmt_count (block_is _ _ _ c.in-Block.is c.as_slice.ensures)) refl

pub count_stmt-returns-in_err-behind-in-Conditional : goal.count_stmt-returns-in_err-behind-in-Conditional
count_stmt-returns-in_err-behind-in-Conditional t c =
    c.from_residual-in_err-behind-in-Conditional.ensures
    ∙ counted_out _ _ _ _ _ c.in_err-behind-in-Conditional.ensures (ap faults.stmt_count (conditional_is _ _ _ _ c.in-Conditional.is c.as_slice-in-Conditional.ensures)) refl

pub count_stmt-returns-in-None : goal.count_stmt-returns-in-None
count_stmt-returns-in-None t c =
    let e = ap faults.stmt_count (without_else _ _ _ _ c.in-Conditional.is c.as_slice-in-Conditional.ensures c.in-None.is) in
    let whole : Some c.in_ok-behind-in-Conditional.behind ≡ left_after c.args.left (faults.branches_count (view.branches c.as_slice-in-Conditional.result.now)) = c.in_ok-behind-in-Conditional.ensures in
    whole ∙ ap (left_after c.args.left) (sym (e ∙ add-zero _))

pub count_stmt-returns-in-Some : goal.count_stmt-returns-in-Some
count_stmt-returns-in-Some t c =
    c.count_stmt.ensures ∙ counted_on _ _ _ _ _ _ c.in_ok-behind-in-Conditional.ensures
    (ap faults.stmt_count (with_else _ _ _ _ _ _ c.in-Conditional.is c.as_slice-in-Conditional.ensures c.in-Some.is c.get.ensures)) refl
