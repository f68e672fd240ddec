use Rattle.vl_tree.specs.declared.token.Mark.TheVariants as m
use Rattle.vl_tree.specs.Grammar.{mark}
use Rattle.vl_module.specs.Reading.{one}
use Rattle.vl_module.specs.Rules.{closing}
use Rattle.vl_module.proofs.Pieces.{fails_expects, expects_lead, no_lead_1}
use Rattle.vl_module.proofs.stmt.expect_closing.Goals as goal

pub returns-in_err-rest-clause-reads : goal.returns-in_err-rest-clause-reads
returns-in_err-rest-clause-reads c =
    fails_expects (mark c.args.depth m.CloseParen) (closing c.args.depth) _ _ (no_lead_1 (mark c.args.depth m.CloseParen) (one (mark c.args.depth m.Semicolon)) _)
    c.in_err-rest.field-0.0 c.in_err-rest.ensures.reads c.from_residual.result c.from_residual.ensures.1

pub returns-clause-reads : goal.returns-clause-reads
returns-clause-reads c =
    expects_lead (mark c.args.depth m.CloseParen) (mark c.args.depth m.Semicolon) _ _ c.in_ok-rest.ensures.reads c.expect_mark-2.result c.expect_mark-2.ensures.reads
