use Rattle.std.proofs.Common.{subst, sym}
use Rattle.std.specs.Prelude.{IfSome}
use Rattle.bit_ops.specs.declared.operator.Binary.{Binary}
use Rattle.step_program.specs.declared.step.Calculation.TheVariants as calc
use Rattle.step_program.specs.declared.step.Step.TheVariants as kind
use Rattle.net_compile.specs.Quick.{IsQuick}
use Rattle.net_compile.proofs.Fast.{xor_quick, sum_quick, same_quick, differ_quick}
use Rattle.net_compile.proofs.quick.quick_binary.Goals as goal

pub returns-in-And : goal.returns-in-And
returns-in-And c =
    subst (λ (q : Binary). IsQuick c.args.width (calc.Binary q c.args.signed c.args.left c.args.right) c.quick_and.result) (sym c.in-And.is)
    c.quick_and.ensures

pub returns-in-Or : goal.returns-in-Or
returns-in-Or c =
    subst (λ (q : Binary). IsQuick c.args.width (calc.Binary q c.args.signed c.args.left c.args.right) c.quick_or.result) (sym c.in-Or.is)
    c.quick_or.ensures

pub returns-in-Xor : goal.returns-in-Xor
returns-in-Xor c =
    subst (λ (q : Binary). IsQuick c.args.width (calc.Binary q c.args.signed c.args.left c.args.right) (kind.Xor c.in_ok-two.two)) (sym c.in-Xor.is)
    (xor_quick c.args.width c.args.signed c.args.left c.args.right c.in_ok-two.two c.requires.1 c.in_ok-two.ensures.0
    c.in_ok-two.ensures.1)

pub returns-in-Add : goal.returns-in-Add
returns-in-Add c =
    subst (λ (q : Binary). IsQuick c.args.width (calc.Binary q c.args.signed c.args.left c.args.right) (kind.Sum c.modulo.result)) (sym c.in-Add.is)
    (sum_quick c.args.width c.args.signed c.args.left c.args.right c.in_ok-two.two c.modulo.result c.requires.1 c.in_ok-two.ensures.0
    c.in_ok-two.ensures.1 c.modulo.ensures.slots c.modulo.ensures.value)

pub returns-in-Eq : goal.returns-in-Eq
returns-in-Eq c =
    subst (λ (q : Binary). IsQuick c.args.width (calc.Binary q c.args.signed c.args.left c.args.right) (kind.Test c.same.result)) (sym c.in-Eq.is)
    (same_quick c.args.width c.args.signed c.args.left c.args.right c.in_ok-two.two c.same.result c.requires.1 c.in_ok-two.ensures.0
    c.in_ok-two.ensures.1 c.same.ensures.slots c.same.ensures.value)

pub returns-in-Ne : goal.returns-in-Ne
returns-in-Ne c =
    subst (λ (q : Binary). IsQuick c.args.width (calc.Binary q c.args.signed c.args.left c.args.right) (kind.Test c.differ.result)) (sym c.in-Ne.is)
    (differ_quick c.args.width c.args.signed c.args.left c.args.right c.in_ok-two.two c.differ.result c.requires.1 c.in_ok-two.ensures.0
    c.in_ok-two.ensures.1 c.differ.ensures.slots c.differ.ensures.value)

pub returns-in-LogicAnd : goal.returns-in-LogicAnd
returns-in-LogicAnd c =
    subst (λ (q : Binary). IfSome c.quick_both.result (λ s. IsQuick c.args.width (calc.Binary q c.args.signed c.args.left c.args.right) s)) (sym c.in-LogicAnd.is)
    c.quick_both.ensures

pub returns-in-LogicOr : goal.returns-in-LogicOr
returns-in-LogicOr c =
    subst (λ (q : Binary). IfSome c.quick_either.result (λ s. IsQuick c.args.width (calc.Binary q c.args.signed c.args.left c.args.right) s)) (sym c.in-LogicOr.is)
    c.quick_either.ensures
