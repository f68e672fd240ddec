use Rattle.std.proofs.Common.{ap}
use Rattle.vl_pre.specs.Directives.{directive_step}
use Rattle.vl_pre.specs.Calls.Views.{directive_of, context_of}
use Rattle.vl_pre.proofs.DirectiveLaws.{goes_as}
use Rattle.vl_pre.proofs.directives.direct.Goals as goal

pub returns-in-Else : goal.returns-in-Else
returns-in-Else c =
    goes_as c.args.at.now c.turn-in-Else.new.self _ _ c.turn-in-Else.result (ap (λ d. directive_step (directive_of d) c.args.line (context_of c.args.context.now) c.args.at.now) c.in-Else.is) (c.turn-in-Else.ensures c.args.at.now)

pub returns-in-Endif : goal.returns-in-Endif
returns-in-Endif c =
    goes_as c.args.at.now c.close.new.self _ _ c.close.result (ap (λ d. directive_step (directive_of d) c.args.line (context_of c.args.context.now) c.args.at.now) c.in-Endif.is) (c.close.ensures c.args.at.now)

pub returns-in-Passed : goal.returns-in-Passed
returns-in-Passed c =
    goes_as c.pass.new.at c.args.context.now _ _ c.pass.result (ap (λ d. directive_step (directive_of d) c.args.line (context_of c.args.context.now) c.args.at.now) c.in-Passed.is) (c.pass.ensures c.args.line c.args.context.now)
