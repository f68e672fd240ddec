use Rattle.std.proofs.Common.{Bool, subst, sym, ap, ◌∙◌}
use Rattle.std.proofs.lemmas.Option.{IfSome_then}
use Rattle.bit_ops.specs.declared.operator.Unary.{Unary}
use Rattle.bit_ops.specs.declared.operator.Binary.{Binary}
use Rattle.netlist.specs.declared.node.Operation.TheVariants as o
use Rattle.net_compile.proofs.Sames.{kept_is, plus_is, extended_is, both_is}
use Rattle.net_compile.specs.Lowered.{IsSameAs}
use Rattle.net_compile.proofs.same.same_as.Goals as goal

pub returns-in-Keep : goal.returns-in-Keep
returns-in-Keep c = kept_is c.args.flat.now c.args.node c.in-Keep.of c.in-Keep.also c.requires c.in-Keep.is

pub returns-in-Unary : goal.returns-in-Unary
returns-in-Unary c =
    IfSome_then c.same_as_operand.result c.same_as_operand.ensures (λ k h.
    subst (λ j. IsSameAs c.args.flat.now c.args.node j) (sym h.1)
    (plus_is c.args.flat.now c.args.node c.in-Unary.of c.requires
    (c.in-Unary.is ∙ ap (λ (u : Unary). o.Unary u c.in-Unary.of) h.0)))

pub returns-in-Extend : goal.returns-in-Extend
returns-in-Extend c =
    IfSome_then c.same_as_extended.result c.same_as_extended.ensures (λ k h.
    subst (λ j. IsSameAs c.args.flat.now c.args.node j) (sym h.1)
    (extended_is c.args.flat.now c.args.node c.in-Extend.of c.requires
    (c.in-Extend.is ∙ ap (λ (b : Bool). o.Extend b c.in-Extend.of) h.0) h.2))

pub returns-in-Binary : goal.returns-in-Binary
returns-in-Binary c =
    IfSome_then c.same_as_both.result c.same_as_both.ensures (λ k h.
    both_is c.args.flat.now c.args.node c.in-Binary.signed c.in-Binary.left c.in-Binary.right k c.requires
    (c.in-Binary.is ∙ ap (λ (b : Binary). o.Binary b c.in-Binary.signed c.in-Binary.left c.in-Binary.right) h.0) h.1)
