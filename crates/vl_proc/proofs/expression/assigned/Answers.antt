use Rattle.std.proofs.Common.{arith}
use Rattle.vl_tree.specs.View.{module_of, expr}
use Rattle.vl_tree.specs.Tree.{Module}
use Rattle.vl_proc.specs.Lowers.{bare}
use Rattle.vl_proc.proofs.Made.{cut_made, uncut_made}
use Rattle.vl_proc.proofs.expression.assigned.Goals as goal

pub returns-then-wide-target : goal.returns-then-wide-target
returns-then-wide-target c =
    let m : Module = module_of c.args.scope.now.module.now in
    cut_made m (expr c.args.e.now) c.args.target c.max-wide.result c.signed.result c.args.nodes.now c.expression.new.nodes c.add.new.self c.in_ok-node.node c.add.result
    c.requires.range.0 c.requires.range.1 (cc) (c.signed.ensures (bare m)) c.in_ok-node.ensures c.add.ensures.number c.add.ensures.added

pub returns-else-wide-target : goal.returns-else-wide-target
returns-else-wide-target c =
    let m : Module = module_of c.args.scope.now.module.now in
    uncut_made m (expr c.args.e.now) c.args.target c.max-wide.result c.signed.result c.args.nodes.now c.expression.new.nodes c.in_ok-node.node
    (cc) (c.signed.ensures (bare m)) (omega arith) c.in_ok-node.ensures
