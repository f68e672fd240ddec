use Rattle.std.proofs.Common.{sym, ◌∙◌}
use Rattle.vl_tree.specs.Token.{all_coded}
use Rattle.vl_tree.specs.SyntaxView.{source}
use Rattle.vl_front.specs.Top.{asked}
use Rattle.vl_front.proofs.Steps.{source_first, one_has_none}
use Rattle.vl_front.proofs.check_source.Goals as goal

pub returns-in-Err-clause-fault : goal.returns-in-Err-clause-fault
returns-in-Err-clause-fault c =
    rw c.in_source.ensures (source_first (asked c.args.top) (all_coded c.args.tokens.now) c.in-Err.fault c.in-Err.ensures.parses)

pub returns-then-is_topless-clause-fault : goal.returns-then-is_topless-clause-fault
returns-then-is_topless-clause-fault c =
    one_has_none (asked c.args.top) (all_coded c.args.tokens.now) (source c.in-Ok.source) c.line_at.result c.in-Ok.ensures.parses c.in-Ok.ensures.only
    (sym c.is_topless.ensures ∙ c.if-is_topless.true) c.line_at.ensures

pub returns-else-is_topless-clause-source : goal.returns-else-is_topless-clause-source
returns-else-is_topless-clause-source c = (source c.in-Ok.source, c.in-Ok.ensures.parses, sym c.is_topless.ensures ∙ c.if-is_topless.false)
