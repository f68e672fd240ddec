use Rattle.std.proofs.Common.{subst, sym}
use Rattle.bit_ops.specs.declared.operator.Binary.TheVariants as op
use Rattle.step_program.specs.declared.step.Pick.{Pick}
use Rattle.step_program.specs.declared.step.Calculation.TheVariants as calc
use Rattle.step_program.specs.declared.step.Step.TheVariants as kind
use Rattle.net_compile.specs.Quick.{IsQuick}
use Rattle.net_compile.proofs.Fast.{and_quick, and_one_quick}
use Rattle.net_compile.proofs.quick.quick_and.Goals as goal

pub returns-then-width-eq1 : goal.returns-then-width-eq1
returns-then-width-eq1 c =
    subst (λ (p : Pick). IsQuick c.args.width (calc.Binary op.And c.args.signed c.args.left c.args.right) (kind.Pick p)) (sym c.both_bits.ensures)
    (and_one_quick c.args.width c.args.signed c.args.left c.args.right c.args.two c.requires.width.1 c.if-width-eq1.true
    c.requires.slots.0 c.requires.slots.1)

pub returns : goal.returns
returns c =
    and_quick c.args.width c.args.signed c.args.left c.args.right c.args.two c.requires.width.1 c.requires.slots.0
    c.requires.slots.1
