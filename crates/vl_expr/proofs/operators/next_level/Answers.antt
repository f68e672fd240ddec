use Rattle.std.proofs.Common.{◌∙◌, ap, sym}
use Rattle.vl_expr.specs.Ends.{level_at}
use Rattle.vl_expr.proofs.Levels.{other_level}
use Rattle.vl_expr.proofs.operators.next_level.Goals as goal

pub returns-in_default-kind : goal.returns-in_default-kind
returns-in_default-kind c = sym (ap level_at c.in-Some.ensures ∙ other_level c.in-Some.token.now.kind c.in_default-kind.not-Mark)
