use Rattle.std.proofs.Common.{◌≡◌, refl}
use Rattle.vl_tree.specs.declared.expr.Unary.{Unary}
use Rattle.vl_tree.specs.declared.expr.Unary.TheVariants as one
use Rattle.vl_tree.specs.View.{module_of, primary}
use Rattle.vl_tree.specs.Tree.{Module}
use Rattle.vl_proc.proofs.Made.{equal_at, not_at}
use Rattle.vl_proc.proofs.expression.expression.Goals as goal

-- there is one operator before an operand
only_not : (op : Unary) → op ≡ one.LogicNot
only_not one.LogicNot = refl

pub returns-in-Unary : goal.returns-in-Unary
returns-in-Unary c =
    let m : Module = module_of c.args.scope.now.module.now in
    rw c.in-Unary.is (rw (only_not c.in-Unary.operator)
    (not_at m (primary c.in-Unary.a) c.args.width c.args.signed c.args.nodes.now c.logically_negated.new.nodes c.logically_negated.result c.requires.range.0 c.logically_negated.ensures))

pub returns-in-Equal : goal.returns-in-Equal
returns-in-Equal c =
    let m : Module = module_of c.args.scope.now.module.now in
    rw c.in-Binary.is (rw c.in-Equal.is
    (equal_at m (primary c.in-Binary.a) (primary c.in-Binary.b) c.args.width c.args.signed c.args.nodes.now c.equality.new.nodes c.equality.result c.requires.range.0 c.equality.ensures))
