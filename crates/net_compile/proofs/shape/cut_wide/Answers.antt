use Rattle.std.proofs.Common.{arith, subst}
use Rattle.step_program.specs.Draft.{HasStep}
use Rattle.step_program.specs.declared.step.Calculation.TheVariants as calc
use Rattle.net_compile.proofs.Standing.{rare}
use Rattle.std.proofs.lemmas.Result.{IfOk-weaker}
use Rattle.net_compile.proofs.Shapes.{cut_wide}
use Rattle.net_compile.proofs.shape.cut_wide.Goals as goal

pub returns-clause-cut : goal.returns-clause-cut
returns-clause-cut c =
    let first : HasStep c.args.builder.now c.constant.new.self (rare 8 (calc.Constant c.args.from)) c.in_ok-place.place =
    subst (λ n. HasStep c.args.builder.now c.constant.new.self (rare 8 (calc.Constant n)) c.in_ok-place.place)
    c.from.ensures c.in_ok-place.ensures in
    IfOk-weaker c.push.result _ _ (λ slot h. cut_wide c.args.builder.now c.constant.new.self c.push.new.self c.args.of
    c.args.from c.args.width c.in_ok-place.place slot (omega (arith, c.requires.range.1, c.requires.of.1))
    c.requires.there.placed first h) c.push.ensures
