use Rattle.std.proofs.Common.{◌∙◌, ap, sym}
use Rattle.vl_tree.specs.Token.{coded_kind, literal_of}
use Rattle.vl_tree.specs.Token as k
use Rattle.vl_module.proofs.Pieces.{first_is}
use Rattle.vl_module.proofs.ExprRules.{name_took, number_took}
use Rattle.vl_module.proofs.expr.read_primary.Goals as goal

pub returns-in_ok-copy-in-Name-clause-reads : goal.returns-in_ok-copy-in-Name-clause-reads
returns-in_ok-copy-in-Name-clause-reads c =
    name_took c.args.depth c.in-Some.ensures.shallow c.in-Some.first.now.line _ _ c.in_ok-copy-in-Name.copy
    (first_is c.args.tokens.now c.in-Some.rest.now c.in-Some.first.now (k.name c.in_ok-copy-in-Name.copy) c.in-Some.ensures.first
    (ap coded_kind c.in-Name.is ∙ ap k.name (sym (c.in_ok-copy-in-Name.ensures ∙ c.bytes.ensures))))

pub returns-in-Number-clause-reads : goal.returns-in-Number-clause-reads
returns-in-Number-clause-reads c =
    number_took c.args.depth c.in-Some.ensures.shallow c.in-Some.first.now.line _ _ (literal_of c.in-Number.literal)
    (first_is c.args.tokens.now c.in-Some.rest.now c.in-Some.first.now (k.number (literal_of c.in-Number.literal)) c.in-Some.ensures.first (ap coded_kind c.in-Number.is))
