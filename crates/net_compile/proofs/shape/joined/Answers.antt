use Rattle.std.proofs.Common.{refl}
use Rattle.std.proofs.lemmas.Result.{IfOk-weaker}
use Rattle.net_compile.proofs.Shapes.{concat_joins}
use Rattle.net_compile.proofs.shape.joined.Goals as goal

pub push-requires : goal.push-requires
push-requires c =
    c.step_of.ensures.fits _ _ ((c.requires.left.0.placed, c.requires.left.1), (c.requires.right.0.placed, c.requires.right.1), refl)

pub returns-clause-joined : goal.returns-clause-joined
returns-clause-joined c =
    IfOk-weaker c.push.result _ _ (λ slot h. concat_joins c.args.builder.now c.push.new.self c.args.left c.args.right
    c.step_of.result slot c.requires.left.0 c.requires.right.0 c.requires.left.1 c.requires.right.1 c.step_of.ensures h)
    c.push.ensures
