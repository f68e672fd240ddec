use Rattle.std.proofs.Common.{drop}
use Rattle.vl_tree.specs.View.{module_of, stmts, branches}
use Rattle.vl_proc.proofs.Turns.{Continues, Chains}
use Rattle.vl_proc.proofs.statement.+statement.Given as goal

abbrev pub invariant-block-loop-s : goal.invariant-block-loop-s
invariant-block-loop-s l = Continues (module_of l.scope.module.now) l.initial.to.nodes l.to.nodes l.initial.to.actions.items l.to.actions.items l.condition (stmts (drop l.s-index l.all)) (stmts l.all)

abbrev pub invariant-branches-loop-branch : goal.invariant-branches-loop-branch
invariant-branches-loop-branch l =
    Chains (module_of l.scope.module.now) l.initial.to.nodes l.to.nodes l.initial.to.actions.items l.to.actions.items l.condition l.rest (branches (drop l.branch-index l.all)) (branches l.all)
