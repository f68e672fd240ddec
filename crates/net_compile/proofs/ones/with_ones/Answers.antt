use Rattle.std.proofs.Common.{subst}
use Rattle.step_program.specs.Draft.{narrow_count, wide_count}
use Rattle.step_program.specs.Fits.{CalculationFits}
use Rattle.step_program.specs.declared.step.Calculation.{Calculation}
use Rattle.net_compile.specs.Lowered.{Mirrors}
use Rattle.std.proofs.lemmas.Result.{IfOk-weaker}
use Rattle.net_compile.proofs.BesideOnes.{with_ones}
use Rattle.net_compile.proofs.ones.with_ones.Goals as goal

pub beside_ones-requires : goal.beside_ones-requires
beside_ones-requires c =
    let d = c.args.builder.now in
    (subst (λ (r : Calculation). CalculationFits (narrow_count d) (wide_count d) c.args.width r) c.in-Unary.is c.requires).0.1

pub returns-in-Some-clause-same : goal.returns-in-Some-clause-same
returns-in-Some-clause-same c =
    let d = c.args.builder.now in
    let wide = (subst (λ (r : Calculation). CalculationFits (narrow_count d) (wide_count d) c.args.width r) c.in-Unary.is c.requires).0.1 in
    IfOk-weaker c.beside_ones.result _ _ (λ r h f front x i m.
    with_ones d c.beside_ones.new.builder c.in-Unary.of r c.in-Unary.operator c.in-Some.comparison c.in-Some.ensures wide h
    c.args.width f front x i (subst (λ (s : Calculation). Mirrors f front d c.args.width x s) c.in-Unary.is m))
    c.beside_ones.ensures.ones
