use Rattle.std.proofs.Common.{subst, sym}
use Rattle.bit_ops.specs.declared.operator.Unary.TheVariants as one
use Rattle.step_program.specs.declared.step.Test.{Test}
use Rattle.step_program.specs.declared.step.Calculation.TheVariants as calc
use Rattle.step_program.specs.declared.step.Step.TheVariants as kind
use Rattle.net_compile.specs.Quick.{IsQuick}
use Rattle.net_compile.proofs.Fast.{not_quick}
use Rattle.net_compile.proofs.quick.quick_not.Goals as goal

pub returns : goal.returns
returns c =
    subst (λ (t : Test). IsQuick c.args.width (calc.Unary one.Not c.args.of) (kind.Test t)) (sym c.zero_test.ensures)
    (not_quick c.args.width c.args.number c.args.of c.requires.width.1 c.requires.number c.if-of-ne1.false)
