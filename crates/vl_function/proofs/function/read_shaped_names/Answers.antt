use Rattle.std.proofs.Common.{arith, ◌≡◌, ◌≤◌, ◌∷◌, [], ◌++◌, ap, sym, subst, refl, ◌∙◌, map, append-nil}
use Rattle.std.proofs.lemmas.Result.{err_from_is_err_and}
use Rattle.vl_tree.specs.declared.token.Mark.TheVariants as m
use Rattle.vl_tree.specs.declared.token.Key.TheVariants as w
use Rattle.vl_tree.specs.Token as k
use Rattle.vl_tree.specs.SyntaxView as view
use Rattle.vl_declaration.proofs.Parts.{first, next, whole, named, found, passed, passes, valued_by, flag, flag_took}
use Rattle.vl_function.proofs.FunctionRules as rule
use Rattle.vl_function.specs.Readers.{names_at, names_depths, shaped_names_at, shaped_names_depths}
use Rattle.vl_header.proofs.HeaderRules.{shaped}
use Rattle.vl_declaration.specs.Readers.{NoShape}
use Rattle.vl_function.proofs.function.read_shaped_names.Goals as goal

pub returns-in_err-shape-clause-reads : goal.returns-in_err-shape-clause-reads
returns-in_err-shape-clause-reads c =
    let p = err_from_is_err_and c.from_residual.result c.from_residual.ensures.1 in
    rw (p.1, p.2) (first (shaped c.args.depth NoShape) (rule.inputs_2 c.args.depth) (rule.inputs_j1 c.args.depth) (whole (rule.inputs_1 c.args.depth) shaped_names_at (shaped_names_depths c.args.depth) (λ x. x) (λ x. refl) (λ x us z c. c) (λ u us z c g. (u, c, refl)) _) c.in_err-shape.field-0.0 c.in_err-shape.ensures.reads)

pub returns-in_err-names-clause-reads : goal.returns-in_err-names-clause-reads
returns-in_err-names-clause-reads c =
    let p = err_from_is_err_and c.from_residual-in_err-names.result c.from_residual-in_err-names.ensures.1 in
    rw (p.1, p.2) ((next (shaped c.args.depth NoShape) (rule.inputs_2 c.args.depth) (rule.inputs_j1 c.args.depth) (whole (rule.inputs_1 c.args.depth) shaped_names_at (shaped_names_depths c.args.depth) (λ x. x) (λ x. refl) (λ x us z c. c) (λ u us z c g. (u, c, refl)) _) _ _ c.in_ok-shape.ensures.reads).fails c.in_err-names.field-0.0 c.in_err-names.ensures.reads)

pub returns-clause-reads : goal.returns-clause-reads
returns-clause-reads c =
    ((next (shaped c.args.depth NoShape) (rule.inputs_2 c.args.depth) (rule.inputs_j1 c.args.depth) (whole (rule.inputs_1 c.args.depth) shaped_names_at (shaped_names_depths c.args.depth) (λ x. x) (λ x. refl) (λ x us z c. c) (λ u us z c g. (u, c, refl)) _) _ _ c.in_ok-shape.ensures.reads).took _ _ c.in_ok-names.ensures.reads)
