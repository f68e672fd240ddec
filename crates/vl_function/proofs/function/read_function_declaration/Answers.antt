use Rattle.std.proofs.Common.{arith, ◌≡◌, ◌≤◌, ◌∷◌, [], ◌++◌, ap, sym, subst, refl, ◌∙◌, map, append-nil}
use Rattle.std.proofs.lemmas.Result.{err_from_is_err_and}
use Rattle.vl_tree.specs.declared.token.Mark.TheVariants as m
use Rattle.vl_tree.specs.declared.token.Key.TheVariants as w
use Rattle.vl_tree.specs.Token as k
use Rattle.vl_tree.specs.SyntaxView as view
use Rattle.vl_declaration.proofs.Parts.{first, next, whole, named, found, passed, passes, valued_by, flag, flag_took}
use Rattle.vl_function.proofs.FunctionRules as rule
use Rattle.vl_header.proofs.HeaderRules.{shaped}
use Rattle.vl_declaration.specs.Readers.{NoShape}
use Rattle.vl_function.proofs.function.read_function_declaration.Goals as goal

pub returns-in_err-place-clause-reads : goal.returns-in_err-place-clause-reads
returns-in_err-place-clause-reads c =
    let p = err_from_is_err_and c.from_residual.result c.from_residual.ensures.1 in
    rw (p.1, p.2) (first (found c.args.depth (k.key w.Input)) (rule.inputs_1 c.args.depth) (rule.inputs_j0 c.args.depth) (rule.inputs_part c.args.depth _ _ _ c.in-Some.ensures.reads) c.in_err-place.field-0.0 c.in_err-place.ensures.reads)

pub returns-in_err-shape-clause-reads : goal.returns-in_err-shape-clause-reads
returns-in_err-shape-clause-reads c =
    let p = err_from_is_err_and c.from_residual-in_err-shape.result c.from_residual-in_err-shape.ensures.1 in
    rw (p.1, p.2) ((next (found c.args.depth (k.key w.Input)) (rule.inputs_1 c.args.depth) (rule.inputs_j0 c.args.depth) (rule.inputs_part c.args.depth _ _ _ c.in-Some.ensures.reads) _ _ c.in_ok-place.ensures.reads).fails c.in_err-shape.field-0.0 c.in_err-shape.ensures.reads)

pub returns-in-Some-clause-reads : goal.returns-in-Some-clause-reads
returns-in-Some-clause-reads c =
    ((next (found c.args.depth (k.key w.Input)) (rule.inputs_1 c.args.depth) (rule.inputs_j0 c.args.depth) (rule.inputs_part c.args.depth _ _ _ c.in-Some.ensures.reads) _ _ c.in_ok-place.ensures.reads).took _ _ c.in_ok-shape.ensures.reads)

pub returns-in_err-place-in-Some-find_key-clause-reads : goal.returns-in_err-place-in-Some-find_key-clause-reads
returns-in_err-place-in-Some-find_key-clause-reads c =
    let p = err_from_is_err_and c.from_residual-in_err-place-in-Some-find_key.result c.from_residual-in_err-place-in-Some-find_key.ensures.1 in
    rw (p.1, p.2) (first (found c.args.depth (k.key w.Reg)) (rule.variables_1 c.args.depth) (rule.variables_j0 c.args.depth) (rule.variables_part c.args.depth _ _ _ c.in-Some-find_key.ensures.reads) c.in_err-place-in-Some-find_key.field-0.0 c.in_err-place-in-Some-find_key.ensures.reads)

pub returns-in_err-shape-in-Some-find_key-clause-reads : goal.returns-in_err-shape-in-Some-find_key-clause-reads
returns-in_err-shape-in-Some-find_key-clause-reads c =
    let p = err_from_is_err_and c.from_residual-in_err-shape-in-Some-find_key.result c.from_residual-in_err-shape-in-Some-find_key.ensures.1 in
    rw (p.1, p.2) ((next (found c.args.depth (k.key w.Reg)) (rule.variables_1 c.args.depth) (rule.variables_j0 c.args.depth) (rule.variables_part c.args.depth _ _ _ c.in-Some-find_key.ensures.reads) _ _ c.in_ok-place-in-Some-find_key.ensures.reads).fails c.in_err-shape-in-Some-find_key.field-0.0 c.in_err-shape-in-Some-find_key.ensures.reads)

pub returns-in_ok-shape-in-Some-find_key-clause-reads : goal.returns-in_ok-shape-in-Some-find_key-clause-reads
returns-in_ok-shape-in-Some-find_key-clause-reads c =
    ((next (found c.args.depth (k.key w.Reg)) (rule.variables_1 c.args.depth) (rule.variables_j0 c.args.depth) (rule.variables_part c.args.depth _ _ _ c.in-Some-find_key.ensures.reads) _ _ c.in_ok-place-in-Some-find_key.ensures.reads).took _ _ c.in_ok-shape-in-Some-find_key.ensures.reads)

pub returns-in_err-place-in-None-clause-reads : goal.returns-in_err-place-in-None-clause-reads
returns-in_err-place-in-None-clause-reads c =
    let p = err_from_is_err_and c.from_residual-in_err-place-in-None.result c.from_residual-in_err-place-in-None.ensures.1 in
    rw (p.1, p.2) (first (found c.args.depth (k.key w.Integer)) (rule.integers_1 c.args.depth) (rule.integers_j0 c.args.depth) (rule.integers_part c.args.depth _ c.in_default.ensures.reads c.in-None.ensures.reads) c.in_err-place-in-None.field-0.0 c.in_err-place-in-None.ensures.reads)

pub returns-in_err-names-in-None-clause-reads : goal.returns-in_err-names-in-None-clause-reads
returns-in_err-names-in-None-clause-reads c =
    let p = err_from_is_err_and c.from_residual-in_err-names-in-None.result c.from_residual-in_err-names-in-None.ensures.1 in
    rw (p.1, p.2) ((next (found c.args.depth (k.key w.Integer)) (rule.integers_1 c.args.depth) (rule.integers_j0 c.args.depth) (rule.integers_part c.args.depth _ c.in_default.ensures.reads c.in-None.ensures.reads) _ _ c.in_ok-place-in-None.ensures.reads).fails c.in_err-names-in-None.field-0.0 c.in_err-names-in-None.ensures.reads)

pub returns-in_ok-names-in-None-clause-reads : goal.returns-in_ok-names-in-None-clause-reads
returns-in_ok-names-in-None-clause-reads c =
    ((next (found c.args.depth (k.key w.Integer)) (rule.integers_1 c.args.depth) (rule.integers_j0 c.args.depth) (rule.integers_part c.args.depth _ c.in_default.ensures.reads c.in-None.ensures.reads) _ _ c.in_ok-place-in-None.ensures.reads).took _ _ c.in_ok-names-in-None.ensures.reads)
