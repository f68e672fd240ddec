use Rattle.vl_lex.proofs.PieceLaws.{mark_some}
use Rattle.vl_lex.proofs.tokens.read_mark.Goals as goal

pub returns-clause-used : goal.returns-clause-used
returns-clause-used c = (mark_some c.args.bytes.now _ _ c.in-Some.ensures.0, c.in-Some.ensures.1)
