use Rattle.std.proofs.lemmas.Result.{err_from_is_err_and}
use Rattle.vl_tree.specs.declared.token.Mark.TheVariants as m
use Rattle.vl_tree.specs.Token as k
use Rattle.vl_declaration.proofs.Parts.{first, next, named, found, passed, passes}
use Rattle.vl_header.proofs.BindRules as rule
use Rattle.vl_header.proofs.binds.read_named_bind.Goals as goal

pub returns-in_err-place-clause-reads : goal.returns-in_err-place-clause-reads
returns-in_err-place-clause-reads c =
    let p = err_from_is_err_and c.from_residual.result c.from_residual.ensures.1 in
    rw (p.1, p.2) (first (found c.args.depth (k.mark m.Dot)) (rule.bind_1 c.args.depth) (rule.bind_j0 c.args.depth) (rule.bind_whole c.args.depth _) c.in_err-place.field-0.0 c.in_err-place.ensures.reads)

pub returns-in_err-name-clause-reads : goal.returns-in_err-name-clause-reads
returns-in_err-name-clause-reads c =
    let p = err_from_is_err_and c.from_residual-in_err-name.result c.from_residual-in_err-name.ensures.1 in
    rw (p.1, p.2) (first (named c.args.depth) (rule.bind_2 c.args.depth) (rule.bind_j1 c.args.depth) (next (found c.args.depth (k.mark m.Dot)) (rule.bind_1 c.args.depth) (rule.bind_j0 c.args.depth) (rule.bind_whole c.args.depth _) _ _ c.in_ok-place.ensures.reads) c.in_err-name.field-0.0 c.in_err-name.ensures.reads)

pub returns-in_err-inner-clause-reads : goal.returns-in_err-inner-clause-reads
returns-in_err-inner-clause-reads c =
    let p = err_from_is_err_and c.from_residual-in_err-inner.result c.from_residual-in_err-inner.ensures.1 in
    rw (p.1, p.2) (first (passed c.args.depth (k.mark m.OpenParen)) (rule.bind_3 c.args.depth) (rule.bind_j2 c.args.depth) (next (named c.args.depth) (rule.bind_2 c.args.depth) (rule.bind_j1 c.args.depth) (next (found c.args.depth (k.mark m.Dot)) (rule.bind_1 c.args.depth) (rule.bind_j0 c.args.depth) (rule.bind_whole c.args.depth _) _ _ c.in_ok-place.ensures.reads) _ _ c.in_ok-name.ensures.reads) c.in_err-inner.field-0.0 (c.in_err-inner.ensures.reads (c.args.depth)))

pub returns-in_err-value-clause-reads : goal.returns-in_err-value-clause-reads
returns-in_err-value-clause-reads c =
    let p = err_from_is_err_and c.from_residual-in_err-value.result c.from_residual-in_err-value.ensures.1 in
    rw (p.1, p.2) ((next (passed c.args.depth (k.mark m.OpenParen)) (rule.bind_3 c.args.depth) (rule.bind_j2 c.args.depth) (next (named c.args.depth) (rule.bind_2 c.args.depth) (rule.bind_j1 c.args.depth) (next (found c.args.depth (k.mark m.Dot)) (rule.bind_1 c.args.depth) (rule.bind_j0 c.args.depth) (rule.bind_whole c.args.depth _) _ _ c.in_ok-place.ensures.reads) _ _ c.in_ok-name.ensures.reads) _ _ (passes (c.args.depth) (k.mark m.OpenParen) (c.in_ok-place.ensures.shallow) _ _ c.in_ok-inner.ensures.reads)).fails c.in_err-value.field-0.0 c.in_err-value.ensures.reads)

pub returns-clause-reads : goal.returns-clause-reads
returns-clause-reads c =
    ((next (passed c.args.depth (k.mark m.OpenParen)) (rule.bind_3 c.args.depth) (rule.bind_j2 c.args.depth) (next (named c.args.depth) (rule.bind_2 c.args.depth) (rule.bind_j1 c.args.depth) (next (found c.args.depth (k.mark m.Dot)) (rule.bind_1 c.args.depth) (rule.bind_j0 c.args.depth) (rule.bind_whole c.args.depth _) _ _ c.in_ok-place.ensures.reads) _ _ c.in_ok-name.ensures.reads) _ _ (passes (c.args.depth) (k.mark m.OpenParen) (c.in_ok-place.ensures.shallow) _ _ c.in_ok-inner.ensures.reads)).took _ _ c.in_ok-value.ensures.reads)
