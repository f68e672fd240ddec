use Rattle.std.proofs.Common.{◌≡◌, drop}
use Rattle.vl_tree.specs.View as view
use Rattle.vl_meaning.specs.Faults as faults
use Rattle.vl_scope.specs.Left.{left_after}
use Rattle.vl_scope.proofs.counts.+counts.Given as goal

-- what is left after the rest is what is left after all
abbrev pub invariant-count_branches-loop-branch : goal.invariant-count_branches-loop-branch
invariant-count_branches-loop-branch l =
    left_after l.left (faults.branches_count (view.branches (drop l.branch-index l.branches))) ≡ left_after l.fn.left (faults.branches_count (view.branches l.branches))

abbrev pub invariant-count_stmts-loop-stmt : goal.invariant-count_stmts-loop-stmt
invariant-count_stmts-loop-stmt l =
    left_after l.left (faults.stmts_count (view.stmts (drop l.stmt-index l.stmts))) ≡ left_after l.fn.left (faults.stmts_count (view.stmts l.stmts))
