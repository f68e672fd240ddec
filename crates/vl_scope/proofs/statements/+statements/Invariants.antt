use Rattle.std.proofs.Common.{◌≡◌, drop}
use Rattle.vl_tree.specs.View as view
use Rattle.vl_meaning.specs.Faults as faults
use Rattle.vl_scope.proofs.statements.+statements.Given as goal

-- the rest decides for all
abbrev pub invariant-are_branches-loop-branch : goal.invariant-are_branches-loop-branch
invariant-are_branches-loop-branch l =
    faults.are_branches (view.module_of l.top) (view.branches (drop l.branch-index l.branches)) ≡ faults.are_branches (view.module_of l.top) (view.branches l.branches)

abbrev pub invariant-are_stmts-loop-stmt : goal.invariant-are_stmts-loop-stmt
invariant-are_stmts-loop-stmt l =
    faults.are_stmts (view.module_of l.top) (view.stmts (drop l.stmt-index l.stmts)) ≡ faults.are_stmts (view.module_of l.top) (view.stmts l.stmts)
