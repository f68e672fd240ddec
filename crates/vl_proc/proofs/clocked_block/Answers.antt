use Rattle.std.proofs.Common.{◌∷◌, [], ◌++◌, List, length, ap, subst, ◌∙◌}
use Rattle.flat_ir.specs.declared.design.Node.{Node}
use Rattle.flat_ir.specs.declared.design.Node.TheVariants as n
use Rattle.flat_ir.specs.declared.design.Action.{Action}
use Rattle.vl_tree.specs.declared.tree.Stmt as stmt_code
use Rattle.vl_tree.specs.View.{module_of, stmts}
use Rattle.vl_tree.specs.Tree.{Module}
use Rattle.vl_meaning.specs.Statement.{execute_all}
use Rattle.vl_proc.specs.Lowers.{context, Adds}
use Rattle.vl_proc.proofs.Whole.{block_built}
use Rattle.vl_proc.proofs.clocked_block.Goals as goal

pub returns : goal.returns
returns c =
    let m : Module = module_of c.args.scope.now.module.now in
    let all : List stmt_code.Stmt = c.args.scope.now.module.now.body in
    block_built m c.add.new.self c.block.new.to.nodes c.block.new.to.actions.items c.in_ok-always.always (c.in_ok-always.ensures.number ∙ ap length c.new.ensures)
    (c.in_ok-always.ensures.added ∙ ap (λ (ns : List Node). ns ++ n.Constant 1 ∷ []) c.new.ensures)
    (subst (λ (as' : List Action). Adds m c.add.new.self c.block.new.to.nodes as' c.block.new.to.actions.items c.in_ok-always.always (λ row state. execute_all (context m row state) (stmts all))) c.new-2.ensures.items
    (subst (λ (xs : List stmt_code.Stmt). Adds m c.add.new.self c.block.new.to.nodes c.new-2.result.items c.block.new.to.actions.items c.in_ok-always.always
    (λ row state. execute_all (context m row state) (stmts xs))) c.as_slice.ensures c.in_ok-block.ensures))
