use Rattle.std.proofs.Common.{◌+◌}
use Rattle.vl_tree.specs.Grammar.{name_at}
use Rattle.vl_module.specs.Reading.{Any, one}
use Rattle.vl_module.specs.Rules.{closing, shown_end}
use Rattle.vl_module.proofs.Pieces.{fails}
use Rattle.vl_module.proofs.StmtRules.{named_none_1, named_none_2, named_took, unnamed_none, unnamed_took}
use Rattle.vl_module.proofs.stmt.read_shown.Goals as goal

pub returns-in_err-name-in-Some-clause-reads : goal.returns-in_err-name-in-Some-clause-reads
returns-in_err-name-in-Some-clause-reads c =
    fails (name_at (c.args.depth + 1)) Any _ (λ x. x) (shown_end c.args.depth) Any _ (named_none_1 c.args.depth _ _ c.in-Some.ensures.reads)
    c.in_err-name-in-Some.field-0.0 c.in_err-name-in-Some.ensures.reads c.from_residual.result c.from_residual.ensures.1

pub returns-in_err-rest-in-Some-clause-reads : goal.returns-in_err-rest-in-Some-clause-reads
returns-in_err-rest-in-Some-clause-reads c =
    fails (one (closing c.args.depth)) Any _ (λ x. x) (shown_end c.args.depth) Any _ (named_none_2 c.args.depth _ _ c.in-Some.ensures.reads _ _ c.in_ok-name-in-Some.ensures.reads)
    c.in_err-rest-in-Some.field-0.0 c.in_err-rest-in-Some.ensures.reads c.from_residual-in_err-rest-in-Some.result c.from_residual-in_err-rest-in-Some.ensures.1

pub returns-in_ok-rest-in-Some-clause-reads : goal.returns-in_ok-rest-in-Some-clause-reads
returns-in_ok-rest-in-Some-clause-reads c =
    named_took c.args.depth _ _ c.in-Some.ensures.reads c.in_ok-name-in-Some.name _ c.in_ok-name-in-Some.ensures.reads _ c.in_ok-rest-in-Some.ensures.reads

pub returns-in_err-rest-in-None-clause-reads : goal.returns-in_err-rest-in-None-clause-reads
returns-in_err-rest-in-None-clause-reads c =
    fails (one (closing c.args.depth)) Any _ (λ x. x) (shown_end c.args.depth) Any _ (unnamed_none c.args.depth _ c.in-None.ensures.reads)
    c.in_err-rest-in-None.field-0.0 c.in_err-rest-in-None.ensures.reads c.from_residual-in_err-rest-in-None.result c.from_residual-in_err-rest-in-None.ensures.1

pub returns-in_ok-rest-in-None-clause-reads : goal.returns-in_ok-rest-in-None-clause-reads
returns-in_ok-rest-in-None-clause-reads c = unnamed_took c.args.depth _ c.in-None.ensures.reads _ c.in_ok-rest-in-None.ensures.reads
