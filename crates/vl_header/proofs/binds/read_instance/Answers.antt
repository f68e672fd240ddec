use Rattle.std.proofs.lemmas.Result.{err_from_is_err_and}
use Rattle.vl_tree.specs.declared.token.Mark.TheVariants as m
use Rattle.vl_tree.specs.Token as k
use Rattle.vl_declaration.proofs.Parts.{first, next, named, passed, passes}
use Rattle.vl_header.proofs.BindRules as rule
use Rattle.vl_header.proofs.binds.read_instance.Goals as goal

pub returns-in_err-name-clause-reads : goal.returns-in_err-name-clause-reads
returns-in_err-name-clause-reads c =
    let p = err_from_is_err_and c.from_residual.result c.from_residual.ensures.1 in
    rw (p.1, p.2) (first (named c.args.depth) (rule.instance_1 c.args.depth) (rule.instance_j0 c.args.depth) (rule.instance_whole c.args.depth _) c.in_err-name.field-0.0 c.in_err-name.ensures.reads)

pub returns-in_err-inner-clause-reads : goal.returns-in_err-inner-clause-reads
returns-in_err-inner-clause-reads c =
    let p = err_from_is_err_and c.from_residual-in_err-inner.result c.from_residual-in_err-inner.ensures.1 in
    rw (p.1, p.2) (first (passed c.args.depth (k.mark m.OpenParen)) (rule.instance_2 c.args.depth) (rule.instance_j1 c.args.depth) (next (named c.args.depth) (rule.instance_1 c.args.depth) (rule.instance_j0 c.args.depth) (rule.instance_whole c.args.depth _) _ _ c.in_ok-name.ensures.reads) c.in_err-inner.field-0.0 (c.in_err-inner.ensures.reads (c.args.depth)))

pub returns-in_err-binds-clause-reads : goal.returns-in_err-binds-clause-reads
returns-in_err-binds-clause-reads c =
    let p = err_from_is_err_and c.from_residual-in_err-binds.result c.from_residual-in_err-binds.ensures.1 in
    rw (p.1, p.2) ((next (passed c.args.depth (k.mark m.OpenParen)) (rule.instance_2 c.args.depth) (rule.instance_j1 c.args.depth) (next (named c.args.depth) (rule.instance_1 c.args.depth) (rule.instance_j0 c.args.depth) (rule.instance_whole c.args.depth _) _ _ c.in_ok-name.ensures.reads) _ _ (passes (c.args.depth) (k.mark m.OpenParen) (c.in_ok-name.ensures.shallow) _ _ c.in_ok-inner.ensures.reads)).fails c.in_err-binds.field-0.0 c.in_err-binds.ensures.reads)

pub returns-clause-reads : goal.returns-clause-reads
returns-clause-reads c =
    ((next (passed c.args.depth (k.mark m.OpenParen)) (rule.instance_2 c.args.depth) (rule.instance_j1 c.args.depth) (next (named c.args.depth) (rule.instance_1 c.args.depth) (rule.instance_j0 c.args.depth) (rule.instance_whole c.args.depth _) _ _ c.in_ok-name.ensures.reads) _ _ (passes (c.args.depth) (k.mark m.OpenParen) (c.in_ok-name.ensures.shallow) _ _ c.in_ok-inner.ensures.reads)).took _ _ c.in_ok-binds.ensures.reads)
