use Rattle.std.proofs.Common.{arith, ◌≡◌, ◌≤◌, ◌∷◌, [], ◌++◌, ap, sym, subst, refl, ◌∙◌, map, append-nil}
use Rattle.std.proofs.lemmas.Result.{err_from_is_err_and}
use Rattle.vl_tree.specs.declared.token.Mark.TheVariants as m
use Rattle.vl_tree.specs.declared.token.Key.TheVariants as w
use Rattle.vl_tree.specs.Token as k
use Rattle.vl_tree.specs.SyntaxView as view
use Rattle.vl_declaration.proofs.Parts.{first, next, named, found, passed, passes, valued_by, flag, flag_took}
use Rattle.vl_function.proofs.FunctionRules as rule
use Rattle.vl_header.proofs.HeaderRules.{shaped}
use Rattle.vl_declaration.specs.Readers.{NoShape}
use Rattle.vl_function.proofs.function.read_function_port.Goals as goal

pub returns-in_err-place-in-Some-clause-reads : goal.returns-in_err-place-in-Some-clause-reads
returns-in_err-place-in-Some-clause-reads c =
    let p = err_from_is_err_and c.from_residual.result c.from_residual.ensures.1 in
    rw (p.1, p.2) (first (found c.args.depth (k.key w.Input)) (rule.input_1 c.args.depth) (rule.input_j0 c.args.depth) (rule.input_declared c.args.depth _ _ _ c.in-Some.ensures.reads) c.in_err-place-in-Some.field-0.0 c.in_err-place-in-Some.ensures.reads)

pub returns-in_err-shape-in-Some-clause-reads : goal.returns-in_err-shape-in-Some-clause-reads
returns-in_err-shape-in-Some-clause-reads c =
    let p = err_from_is_err_and c.from_residual-in_err-shape-in-Some.result c.from_residual-in_err-shape-in-Some.ensures.1 in
    rw (p.1, p.2) (first (shaped c.args.depth NoShape) (rule.input_2 c.args.depth) (rule.input_j1 c.args.depth) (next (found c.args.depth (k.key w.Input)) (rule.input_1 c.args.depth) (rule.input_j0 c.args.depth) (rule.input_declared c.args.depth _ _ _ c.in-Some.ensures.reads) _ _ c.in_ok-place-in-Some.ensures.reads) c.in_err-shape-in-Some.field-0.0 c.in_err-shape-in-Some.ensures.reads)

pub returns-in_err-name-in-Some-clause-reads : goal.returns-in_err-name-in-Some-clause-reads
returns-in_err-name-in-Some-clause-reads c =
    let p = err_from_is_err_and c.from_residual-in_err-name-in-Some.result c.from_residual-in_err-name-in-Some.ensures.1 in
    rw (p.1, p.2) ((next (shaped c.args.depth NoShape) (rule.input_2 c.args.depth) (rule.input_j1 c.args.depth) (next (found c.args.depth (k.key w.Input)) (rule.input_1 c.args.depth) (rule.input_j0 c.args.depth) (rule.input_declared c.args.depth _ _ _ c.in-Some.ensures.reads) _ _ c.in_ok-place-in-Some.ensures.reads) _ _ c.in_ok-shape-in-Some.ensures.reads).fails c.in_err-name-in-Some.field-0.0 c.in_err-name-in-Some.ensures.reads)

pub returns-in_ok-name-in-Some-clause-reads : goal.returns-in_ok-name-in-Some-clause-reads
returns-in_ok-name-in-Some-clause-reads c =
    ((next (shaped c.args.depth NoShape) (rule.input_2 c.args.depth) (rule.input_j1 c.args.depth) (next (found c.args.depth (k.key w.Input)) (rule.input_1 c.args.depth) (rule.input_j0 c.args.depth) (rule.input_declared c.args.depth _ _ _ c.in-Some.ensures.reads) _ _ c.in_ok-place-in-Some.ensures.reads) _ _ c.in_ok-shape-in-Some.ensures.reads).took _ _ c.in_ok-name-in-Some.ensures.reads)

pub returns-in_err-name-in-None-clause-reads : goal.returns-in_err-name-in-None-clause-reads
returns-in_err-name-in-None-clause-reads c =
    let p = err_from_is_err_and c.from_residual-in_err-name-in-None.result c.from_residual-in_err-name-in-None.ensures.1 in
    rw (p.1, p.2) ((rule.input_named c.args.depth _ c.in-None.ensures.reads).fails c.in_err-name-in-None.field-0.0 c.in_err-name-in-None.ensures.reads)

pub returns-in_ok-name-in-None-clause-reads : goal.returns-in_ok-name-in-None-clause-reads
returns-in_ok-name-in-None-clause-reads c =
    ((rule.input_named c.args.depth _ c.in-None.ensures.reads).took _ _ c.in_ok-name-in-None.ensures.reads)
