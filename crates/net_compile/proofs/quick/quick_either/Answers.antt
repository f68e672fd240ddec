use Rattle.std.proofs.Common.{subst, sym}
use Rattle.bit_ops.specs.declared.operator.Binary.TheVariants as op
use Rattle.step_program.specs.declared.step.Pick.{Pick}
use Rattle.step_program.specs.declared.step.Calculation.TheVariants as calc
use Rattle.step_program.specs.declared.step.Step.TheVariants as kind
use Rattle.net_compile.specs.Quick.{IsQuick}
use Rattle.net_compile.proofs.Fast.{either_quick}
use Rattle.net_compile.proofs.quick.quick_either.Goals as goal

pub returns : goal.returns
returns c =
    subst (λ (p : Pick). IsQuick c.args.width (calc.Binary op.LogicOr c.args.signed c.args.left c.args.right) (kind.Pick p)) (sym c.either_bit.ensures)
    (either_quick c.args.width c.args.signed c.args.left c.args.right c.args.two c.requires.width.1 c.requires.slots.0
    c.requires.slots.1 c.if-left-ne1.false c.if-right-ne1.false)
