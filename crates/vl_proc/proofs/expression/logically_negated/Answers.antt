use Rattle.vl_tree.specs.View.{module_of, primary}
use Rattle.vl_tree.specs.Tree.{Module}
use Rattle.vl_proc.specs.Lowers.{bare}
use Rattle.vl_proc.proofs.Made.{not_made}
use Rattle.vl_proc.proofs.expression.logically_negated.Goals as goal

pub returns : goal.returns
returns c =
    let m : Module = module_of c.args.scope.now.module.now in
    not_made m (primary c.args.a.now) c.primary_width.result c.primary_signed.result c.args.nodes.now c.primary.new.nodes c.add.new.self c.in_ok-own.own c.add.result
    c.primary_width.ensures.value (c.primary_signed.ensures (bare m)) c.in_ok-own.ensures c.add.ensures.number c.add.ensures.added
