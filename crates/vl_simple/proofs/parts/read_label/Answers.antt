use Rattle.std.proofs.lemmas.Result.{err_from_is_err_and}
use Rattle.vl_tree.specs.SyntaxView as plain
use Rattle.vl_read.proofs.TokenRules.{took_name}
use Rattle.vl_simple.proofs.PartRules as rule
use Rattle.vl_simple.proofs.parts.read_label.Goals as goal

pub returns-in-None-clause-reads : goal.returns-in-None-clause-reads
returns-in-None-clause-reads c =
    rule.label_none c.args.depth c.args.at c.in-None.ensures.reads

pub returns-in_err-name-in-Some-clause-reads : goal.returns-in_err-name-in-Some-clause-reads
returns-in_err-name-in-Some-clause-reads c =
    let l0 = rule.label_part c.args.depth c.requires.low _ c.args.at _ c.in-Some.ensures.reads in
    let p = err_from_is_err_and c.from_residual.result c.from_residual.ensures.1 in
    rw (p.1, p.2) (l0.fails c.in_err-name-in-Some.field-0.0 (c.in_err-name-in-Some.ensures.reads c.args.depth))

pub returns-in_ok-name-in-Some-clause-reads : goal.returns-in_ok-name-in-Some-clause-reads
returns-in_ok-name-in-Some-clause-reads c =
    let l0 = rule.label_part c.args.depth c.requires.low _ c.args.at _ c.in-Some.ensures.reads in
    l0.took _ _ (took_name c.args.depth c.requires.low (plain.name c.in_ok-name-in-Some.name) _ _ c.in_ok-name-in-Some.ensures.reads)
