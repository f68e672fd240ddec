use Rattle.std.proofs.Common.{ap}
use Rattle.vl_tree.specs.Token.{coded_kind, literal_of}
use Rattle.vl_tree.specs.Token as k
use Rattle.vl_module.proofs.Pieces.{first_is}
use Rattle.vl_module.proofs.OneToken.{took_number}
use Rattle.vl_module.proofs.tokens.read_number.Goals as goal

pub returns-in-Number-clause-reads : goal.returns-in-Number-clause-reads
returns-in-Number-clause-reads c =
    took_number c.args.depth c.in-Some.ensures.shallow c.in-Some.first.now.line _ _ (literal_of c.in-Number.literal)
    (first_is c.args.tokens.now c.in-Some.rest.now c.in-Some.first.now (k.number (literal_of c.in-Number.literal)) c.in-Some.ensures.first (ap coded_kind c.in-Number.is))
