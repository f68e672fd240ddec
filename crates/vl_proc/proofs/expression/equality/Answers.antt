use Rattle.vl_tree.specs.View.{module_of, primary}
use Rattle.vl_tree.specs.Tree.{Module}
use Rattle.vl_proc.specs.Lowers.{bare}
use Rattle.vl_proc.proofs.Made.{equal_made}
use Rattle.vl_proc.proofs.expression.equality.Goals as goal

pub returns : goal.returns
returns c =
    let m : Module = module_of c.args.scope.now.module.now in
    equal_made m (primary c.args.a.now) (primary c.args.b.now) c.max-width.result c.both_signed-signed.result c.args.nodes.now c.primary.new.nodes c.primary-2.new.nodes c.add.new.self c.in_ok-left.left c.in_ok-right.right c.add.result
    (cc) (c.both_signed-signed.ensures (bare m)) c.in_ok-left.ensures c.in_ok-right.ensures c.add.ensures.number c.add.ensures.added
