use Rattle.std.proofs.Common.{◌≡◌, Some, ap, refl, sym, ◌∙◌, add-zero}
use Rattle.vl_tree.specs.View as view
use Rattle.vl_meaning.specs.Faults as faults
use Rattle.vl_scope.specs.Left.{left_after}
use Rattle.vl_scope.proofs.LeftLaws.{counted_on, counted_out}
use Rattle.vl_scope.proofs.Views.{stmts-drop, branches-drop, block_is, conditional_is, without_else, with_else}
use Rattle.vl_scope.proofs.counts.+stops.Goals as goal

pub count_stops-loop-stmt-preserved : goal.count_stops-loop-stmt-preserved
count_stops-loop-stmt-preserved t c =
    counted_on _ _ _ _ _ _ c.in_ok-left.ensures (ap faults.stmts_stops (stmts-drop _ _ _ c.loop-stmt-test.true c.stmt-item.is)) c.loop-stmt.invariant

pub count_stops-returns-in_err-left : goal.count_stops-returns-in_err-left
count_stops-returns-in_err-left t c =
    c.from_residual.ensures ∙ counted_out _ _ _ _ _ c.in_err-left.ensures (ap faults.stmts_stops (stmts-drop _ _ _ c.loop-stmt-test.true c.stmt-item.is)) c.loop-stmt.invariant

pub stops_in_branches-loop-branch-preserved : goal.stops_in_branches-loop-branch-preserved
stops_in_branches-loop-branch-preserved t c =
    counted_on _ _ _ _ _ _ c.in_ok-left.ensures (ap faults.branches_stops (branches-drop _ _ _ c.loop-branch-test.true c.branch-item.is)) c.loop-branch.invariant

pub stops_in_branches-returns-in_err-left : goal.stops_in_branches-returns-in_err-left
stops_in_branches-returns-in_err-left t c =
    c.from_residual.ensures ∙ counted_out _ _ _ _ _ c.in_err-left.ensures (ap faults.branches_stops (branches-drop _ _ _ c.loop-branch-test.true c.branch-item.is)) c.loop-branch.invariant

pub stops_of-returns-in-Block : goal.stops_of-returns-in-Block
stops_of-returns-in-Block t c = c.count_stops.ensures ∙ ap (left_after c.args.left) (sym (ap faults.stmt_stops (block_is _ _ _ c.in-Block.is c.as_slice.ensures)))

pub stops_of-returns-in_err-behind-in-Conditional : goal.stops_of-returns-in_err-behind-in-Conditional
stops_of-returns-in_err-behind-in-Conditional t c =
    c.from_residual.ensures ∙ counted_out _ _ _ _ _ c.in_err-behind-in-Conditional.ensures (ap faults.stmt_stops (conditional_is _ _ _ _ c.in-Conditional.is c.as_slice-in-Conditional.ensures)) refl

pub stops_of-returns-in-None : goal.stops_of-returns-in-None
stops_of-returns-in-None t c =
    let e = ap faults.stmt_stops (without_else _ _ _ _ c.in-Conditional.is c.as_slice-in-Conditional.ensures c.in-None.is) in
    let whole : Some c.in_ok-behind-in-Conditional.behind ≡ left_after c.args.left (faults.branches_stops (view.branches c.as_slice-in-Conditional.result.now)) = c.in_ok-behind-in-Conditional.ensures in
    whole ∙ ap (left_after c.args.left) (sym (e ∙ add-zero _))

pub stops_of-returns-in-Some : goal.stops_of-returns-in-Some
stops_of-returns-in-Some t c =
    c.stops_of.ensures ∙ counted_on _ _ _ _ _ _ c.in_ok-behind-in-Conditional.ensures
    (ap faults.stmt_stops (with_else _ _ _ _ _ _ c.in-Conditional.is c.as_slice-in-Conditional.ensures c.in-Some.is c.get.ensures)) refl
