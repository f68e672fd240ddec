use Rattle.std.proofs.Common.{subst, sym}
use Rattle.bit_ops.specs.declared.operator.Unary.{Unary}
use Rattle.bit_ops.specs.declared.operator.Unary.TheVariants as one
use Rattle.step_program.specs.declared.step.Test.{Test}
use Rattle.step_program.specs.declared.step.Calculation.TheVariants as calc
use Rattle.step_program.specs.declared.step.Step.TheVariants as kind
use Rattle.net_compile.specs.Quick.{IsQuick}
use Rattle.net_compile.proofs.Fast.{logic_not_quick, nor_quick, or_all_quick}
use Rattle.net_compile.proofs.quick.quick_unary.Goals as goal

pub returns-in-LogicNot : goal.returns-in-LogicNot
returns-in-LogicNot c =
    subst (λ (q : Unary). IsQuick c.args.width (calc.Unary q c.args.of) (kind.Test c.zero_test.result)) (sym c.in-LogicNot.is)
    (subst (λ (t : Test). IsQuick c.args.width (calc.Unary one.LogicNot c.args.of) (kind.Test t)) (sym c.zero_test.ensures)
    (logic_not_quick c.args.width c.in_ok-number.number c.args.of c.requires.1 c.in_ok-number.ensures))

pub returns-in-Nor : goal.returns-in-Nor
returns-in-Nor c =
    subst (λ (q : Unary). IsQuick c.args.width (calc.Unary q c.args.of) (kind.Test c.zero_test-in-Nor.result)) (sym c.in-Nor.is)
    (subst (λ (t : Test). IsQuick c.args.width (calc.Unary one.Nor c.args.of) (kind.Test t)) (sym c.zero_test-in-Nor.ensures)
    (nor_quick c.args.width c.in_ok-number.number c.args.of c.requires.1 c.in_ok-number.ensures))

pub returns-in-Or : goal.returns-in-Or
returns-in-Or c =
    subst (λ (q : Unary). IsQuick c.args.width (calc.Unary q c.args.of) (kind.Test c.zero_test-in-Or.result)) (sym c.in-Or.is)
    (subst (λ (t : Test). IsQuick c.args.width (calc.Unary one.Or c.args.of) (kind.Test t)) (sym c.zero_test-in-Or.ensures)
    (or_all_quick c.args.width c.in_ok-number.number c.args.of c.requires.1 c.in_ok-number.ensures))
