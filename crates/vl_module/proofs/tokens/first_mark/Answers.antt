use Rattle.std.proofs.Common.{ap}
use Rattle.vl_tree.specs.Token.{coded_kind}
use Rattle.vl_tree.specs.Token as k
use Rattle.vl_module.proofs.Pieces.{first_is}
use Rattle.vl_module.proofs.OneToken.{took_mark}
use Rattle.vl_module.proofs.tokens.first_mark.Goals as goal

pub returns-in-Mark-clause-reads : goal.returns-in-Mark-clause-reads
returns-in-Mark-clause-reads c =
    took_mark c.args.depth c.in_ok-first.ensures.shallow c.in_ok-first.first.now.line _ _ c.in-Mark.mark
    (first_is c.args.tokens.now c.in_ok-first.rest.now c.in_ok-first.first.now (k.mark c.in-Mark.mark) c.in_ok-first.ensures.first (ap coded_kind c.in-Mark.is))
