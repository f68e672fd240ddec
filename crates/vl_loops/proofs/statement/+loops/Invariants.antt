use Rattle.std.proofs.Common.{◌≡◌, ◌++◌, drop}
use Rattle.vl_design.specs.LoopVariables.{all_loop_names, branch_loop_names, arm_loop_names}
use Rattle.vl_loops.specs.Statements.{texts, stmts_of, branches_of, arms_of}
use Rattle.vl_loops.proofs.statement.+loops.Given as goal

-- the names so far, and those of what is left
abbrev pub invariant-in_all-loop-s : goal.invariant-in_all-loop-s
invariant-in_all-loop-s l = texts l.names.items ++ all_loop_names (stmts_of (drop l.s-index l.all)) ≡ texts l.fn.names.items ++ all_loop_names (stmts_of l.all)

abbrev pub invariant-in_branches-loop-branch : goal.invariant-in_branches-loop-branch
invariant-in_branches-loop-branch l =
    texts l.names.items ++ branch_loop_names (branches_of (drop l.branch-index l.all)) ≡ texts l.fn.names.items ++ branch_loop_names (branches_of l.all)

abbrev pub invariant-in_arms-loop-arm : goal.invariant-in_arms-loop-arm
invariant-in_arms-loop-arm l = texts l.names.items ++ arm_loop_names (arms_of (drop l.arm-index l.all)) ≡ texts l.fn.names.items ++ arm_loop_names (arms_of l.all)
