use Rattle.std.proofs.lemmas.Result.{err_from_is_err_and}
use Rattle.vl_tree.specs.declared.token.Mark.TheVariants as m
use Rattle.vl_tree.specs.Token as k
use Rattle.vl_declaration.proofs.Parts.{first, next, passed, passes}
use Rattle.vl_header.proofs.BindRules as rule
use Rattle.vl_header.proofs.binds.read_parameter_binds.Goals as goal

pub returns-in-None-clause-reads : goal.returns-in-None-clause-reads
returns-in-None-clause-reads c =
    rule.hash_none c.args.depth _ c.in-None.ensures.reads

pub returns-in_err-inner-in-Some-clause-reads : goal.returns-in_err-inner-in-Some-clause-reads
returns-in_err-inner-in-Some-clause-reads c =
    let p = err_from_is_err_and c.from_residual.result c.from_residual.ensures.1 in
    rw (p.1, p.2) (first (passed c.args.depth (k.mark m.OpenParen)) (rule.instance_2 c.args.depth) (rule.instance_j1 c.args.depth) (rule.hash_part c.args.depth c.requires.low _ _ _ c.in-Some.ensures.reads) c.in_err-inner-in-Some.field-0.0 (c.in_err-inner-in-Some.ensures.reads (c.args.depth)))

pub returns-in_err-binds-in-Some-clause-reads : goal.returns-in_err-binds-in-Some-clause-reads
returns-in_err-binds-in-Some-clause-reads c =
    let p = err_from_is_err_and c.from_residual-in_err-binds-in-Some.result c.from_residual-in_err-binds-in-Some.ensures.1 in
    rw (p.1, p.2) ((next (passed c.args.depth (k.mark m.OpenParen)) (rule.instance_2 c.args.depth) (rule.instance_j1 c.args.depth) (rule.hash_part c.args.depth c.requires.low _ _ _ c.in-Some.ensures.reads) _ _ (passes (c.args.depth) (k.mark m.OpenParen) (c.requires.low) _ _ c.in_ok-inner-in-Some.ensures.reads)).fails c.in_err-binds-in-Some.field-0.0 c.in_err-binds-in-Some.ensures.reads)

pub returns-in_ok-binds-in-Some-clause-reads : goal.returns-in_ok-binds-in-Some-clause-reads
returns-in_ok-binds-in-Some-clause-reads c =
    ((next (passed c.args.depth (k.mark m.OpenParen)) (rule.instance_2 c.args.depth) (rule.instance_j1 c.args.depth) (rule.hash_part c.args.depth c.requires.low _ _ _ c.in-Some.ensures.reads) _ _ (passes (c.args.depth) (k.mark m.OpenParen) (c.requires.low) _ _ c.in_ok-inner-in-Some.ensures.reads)).took _ _ c.in_ok-binds-in-Some.ensures.reads)
