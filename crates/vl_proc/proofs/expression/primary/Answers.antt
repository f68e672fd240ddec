use Rattle.std.proofs.Common.{◌≡◌, ◌∙◌, ap, Bool, ◌&&◌}
use Rattle.bit_ops.specs.Operators.{extend}
use Rattle.flat_ir.specs.declared.design.Node.TheVariants as n
use Rattle.vl_tree.specs.declared.expr.Primary.TheVariants as o
use Rattle.vl_tree.specs.View.{module_of, primary}
use Rattle.vl_tree.specs.Tree.{Module}
use Rattle.vl_meaning.specs.Expression.{primary_meaning}
use Rattle.vl_proc.specs.Lowers.{context}
use Rattle.vl_proc.proofs.Values.{grown_none}
use Rattle.vl_proc.proofs.Made.{added_ok, primary_name}
use Rattle.vl_proc.proofs.expression.primary.Goals as goal
use Rattle.vl_proc.proofs.expression.primary.Goals.{then-l, else-l}

pub returns-in-Name : goal.returns-in-Name
returns-in-Name c =
    let m : Module = module_of c.args.scope.now.module.now in
    rw c.in-Name.is (primary_name m c.in-Name.name c.args.width c.args.signed c.args.nodes.now c.read.new.nodes c.read.result c.requires.known.declared (rw c.in-Name.is at c.requires.sound) (rw c.in-Name.is at c.requires.wide) c.read.ensures)

pub returns-after-l : goal.returns-after-l
returns-after-l c =
    let m : Module = module_of c.args.scope.now.module.now in
    let l = c.in-Number.l in
    let sign : c.if-l.sign ≡ (l.signed && c.args.signed) = elim c.if-l.branch [ then-l w ↦ rw w.if-l.true w.sign-is | else-l w ↦ rw w.if-l.false (w.sign-is ∙ w.if-l.false) ] in
    rw c.in-Number.is (added_ok m c.args.nodes.now c.args.nodes.now c.add.new.self (n.Constant c.extend.result)
    (λ row state. (primary_meaning (context m row state) (primary (o.Number l))).at c.args.width c.args.signed) c.add.result (grown_none m c.args.nodes.now) c.add.ensures.number c.add.ensures.added tt
    (λ row state f g. c.extend.ensures ∙ ap (λ (b : Bool). extend b l.width c.args.width l.value) sign))
