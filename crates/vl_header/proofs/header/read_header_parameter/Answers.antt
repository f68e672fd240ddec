use Rattle.std.proofs.lemmas.Result.{err_from_is_err_and}
use Rattle.vl_tree.specs.declared.token.Mark.TheVariants as m
use Rattle.vl_tree.specs.declared.token.Key.TheVariants as w
use Rattle.vl_tree.specs.Token as k
use Rattle.vl_declaration.proofs.Parts.{first, next, named, found, passed, passes}
use Rattle.vl_header.proofs.HeaderRules as rule
use Rattle.vl_declaration.specs.Readers.{NoShape}
use Rattle.vl_header.proofs.header.read_header_parameter.Goals as goal

pub returns-in_err-place-in-Some-clause-reads : goal.returns-in_err-place-in-Some-clause-reads
returns-in_err-place-in-Some-clause-reads c =
    let p = err_from_is_err_and c.from_residual.result c.from_residual.ensures.1 in
    rw (p.1, p.2) (first (found c.args.depth (k.key w.Parameter)) (rule.header_1 c.args.depth) (rule.header_j0 c.args.depth) (rule.header_declared c.args.depth _ _ _ c.in-Some.ensures.reads) c.in_err-place-in-Some.field-0.0 c.in_err-place-in-Some.ensures.reads)

pub returns-in_err-shape-in-Some-clause-reads : goal.returns-in_err-shape-in-Some-clause-reads
returns-in_err-shape-in-Some-clause-reads c =
    let p = err_from_is_err_and c.from_residual-in_err-shape-in-Some.result c.from_residual-in_err-shape-in-Some.ensures.1 in
    rw (p.1, p.2) (first (rule.shaped c.args.depth NoShape) (rule.header_2 c.args.depth) (rule.header_j1 c.args.depth) (next (found c.args.depth (k.key w.Parameter)) (rule.header_1 c.args.depth) (rule.header_j0 c.args.depth) (rule.header_declared c.args.depth _ _ _ c.in-Some.ensures.reads) _ _ c.in_ok-place-in-Some.ensures.reads) c.in_err-shape-in-Some.field-0.0 c.in_err-shape-in-Some.ensures.reads)

pub returns-in_err-name-in-Some-clause-reads : goal.returns-in_err-name-in-Some-clause-reads
returns-in_err-name-in-Some-clause-reads c =
    let p = err_from_is_err_and c.from_residual-in_err-name-in-Some.result c.from_residual-in_err-name-in-Some.ensures.1 in
    rw (p.1, p.2) (first (named c.args.depth) (rule.header_3 c.args.depth) (rule.header_j2 c.args.depth) (next (rule.shaped c.args.depth NoShape) (rule.header_2 c.args.depth) (rule.header_j1 c.args.depth) (next (found c.args.depth (k.key w.Parameter)) (rule.header_1 c.args.depth) (rule.header_j0 c.args.depth) (rule.header_declared c.args.depth _ _ _ c.in-Some.ensures.reads) _ _ c.in_ok-place-in-Some.ensures.reads) _ _ c.in_ok-shape-in-Some.ensures.reads) c.in_err-name-in-Some.field-0.0 c.in_err-name-in-Some.ensures.reads)

pub returns-in_err-inner-in-Some-clause-reads : goal.returns-in_err-inner-in-Some-clause-reads
returns-in_err-inner-in-Some-clause-reads c =
    let p = err_from_is_err_and c.from_residual-in_err-inner-in-Some.result c.from_residual-in_err-inner-in-Some.ensures.1 in
    rw (p.1, p.2) (first (passed c.args.depth (k.mark m.Equals)) (rule.header_4 c.args.depth) (rule.header_j3 c.args.depth) (next (named c.args.depth) (rule.header_3 c.args.depth) (rule.header_j2 c.args.depth) (next (rule.shaped c.args.depth NoShape) (rule.header_2 c.args.depth) (rule.header_j1 c.args.depth) (next (found c.args.depth (k.key w.Parameter)) (rule.header_1 c.args.depth) (rule.header_j0 c.args.depth) (rule.header_declared c.args.depth _ _ _ c.in-Some.ensures.reads) _ _ c.in_ok-place-in-Some.ensures.reads) _ _ c.in_ok-shape-in-Some.ensures.reads) _ _ c.in_ok-name-in-Some.ensures.reads) c.in_err-inner-in-Some.field-0.0 (c.in_err-inner-in-Some.ensures.reads (c.args.depth)))

pub returns-in_err-value-in-Some-clause-reads : goal.returns-in_err-value-in-Some-clause-reads
returns-in_err-value-in-Some-clause-reads c =
    let p = err_from_is_err_and c.from_residual-in_err-value-in-Some.result c.from_residual-in_err-value-in-Some.ensures.1 in
    rw (p.1, p.2) ((next (passed c.args.depth (k.mark m.Equals)) (rule.header_4 c.args.depth) (rule.header_j3 c.args.depth) (next (named c.args.depth) (rule.header_3 c.args.depth) (rule.header_j2 c.args.depth) (next (rule.shaped c.args.depth NoShape) (rule.header_2 c.args.depth) (rule.header_j1 c.args.depth) (next (found c.args.depth (k.key w.Parameter)) (rule.header_1 c.args.depth) (rule.header_j0 c.args.depth) (rule.header_declared c.args.depth _ _ _ c.in-Some.ensures.reads) _ _ c.in_ok-place-in-Some.ensures.reads) _ _ c.in_ok-shape-in-Some.ensures.reads) _ _ c.in_ok-name-in-Some.ensures.reads) _ _ (passes (c.args.depth) (k.mark m.Equals) (c.in_ok-place-in-Some.ensures.shallow) _ _ c.in_ok-inner-in-Some.ensures.reads)).fails c.in_err-value-in-Some.field-0.0 c.in_err-value-in-Some.ensures.reads)

pub returns-in_ok-value-in-Some-clause-reads : goal.returns-in_ok-value-in-Some-clause-reads
returns-in_ok-value-in-Some-clause-reads c =
    ((next (passed c.args.depth (k.mark m.Equals)) (rule.header_4 c.args.depth) (rule.header_j3 c.args.depth) (next (named c.args.depth) (rule.header_3 c.args.depth) (rule.header_j2 c.args.depth) (next (rule.shaped c.args.depth NoShape) (rule.header_2 c.args.depth) (rule.header_j1 c.args.depth) (next (found c.args.depth (k.key w.Parameter)) (rule.header_1 c.args.depth) (rule.header_j0 c.args.depth) (rule.header_declared c.args.depth _ _ _ c.in-Some.ensures.reads) _ _ c.in_ok-place-in-Some.ensures.reads) _ _ c.in_ok-shape-in-Some.ensures.reads) _ _ c.in_ok-name-in-Some.ensures.reads) _ _ (passes (c.args.depth) (k.mark m.Equals) (c.in_ok-place-in-Some.ensures.shallow) _ _ c.in_ok-inner-in-Some.ensures.reads)).took _ _ c.in_ok-value-in-Some.ensures.reads)

pub returns-in_err-valued-in-None-clause-reads : goal.returns-in_err-valued-in-None-clause-reads
returns-in_err-valued-in-None-clause-reads c =
    let p = err_from_is_err_and c.from_residual-in_err-valued-in-None.result c.from_residual-in_err-valued-in-None.ensures.1 in
    rw (p.1, p.2) ((rule.header_next c.args.depth _ c.in-None.ensures.reads).fails c.in_err-valued-in-None.field-0.0 c.in_err-valued-in-None.ensures.reads)

pub returns-in_ok-valued-in-None-clause-reads : goal.returns-in_ok-valued-in-None-clause-reads
returns-in_ok-valued-in-None-clause-reads c =
    ((rule.header_next c.args.depth _ c.in-None.ensures.reads).took _ _ c.in_ok-valued-in-None.ensures.reads)
