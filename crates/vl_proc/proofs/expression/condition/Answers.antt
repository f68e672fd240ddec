use Rattle.vl_tree.specs.View.{module_of, expr}
use Rattle.vl_tree.specs.Tree.{Module}
use Rattle.vl_proc.specs.Lowers.{bare}
use Rattle.vl_proc.proofs.Made.{condition_made}
use Rattle.vl_proc.proofs.expression.condition.Goals as goal

pub returns : goal.returns
returns c =
    let m : Module = module_of c.args.scope.now.module.now in
    condition_made m (expr c.args.e.now) c.width.result c.signed.result c.args.nodes.now c.expression.new.nodes c.expression.result c.width.ensures.value (c.signed.ensures (bare m)) c.expression.ensures
