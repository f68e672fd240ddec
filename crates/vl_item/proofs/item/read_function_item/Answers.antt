use Rattle.std.proofs.lemmas.Result.{err_from_is_err_and}
use Rattle.vl_tree.specs.declared.token.Key.TheVariants as w
use Rattle.vl_tree.specs.Token as k
use Rattle.vl_tree.specs.SyntaxView as view
use Rattle.vl_declaration.proofs.Parts.{first, found}
use Rattle.vl_item.proofs.ItemRules as rule
use Rattle.vl_item.proofs.Views as views
use Rattle.vl_item.proofs.item.read_function_item.Goals as goal

pub returns-in_err-place-clause-reads : goal.returns-in_err-place-clause-reads
returns-in_err-place-clause-reads c =
    let d = c.args.depth in
    let p = err_from_is_err_and c.from_residual.result c.from_residual.ensures.1 in
    rw (p.1, p.2)
    (first (found d (k.key w.Function)) (rule.function_tail d) (rule.function_j0 d)
    (rule.function_whole d _) c.in_err-place.field-0.0 c.in_err-place.ensures.reads)

pub returns-in_err-function-clause-reads : goal.returns-in_err-function-clause-reads
returns-in_err-function-clause-reads c =
    let p = err_from_is_err_and c.from_residual-in_err-function.result c.from_residual-in_err-function.ensures.1 in
    rw (p.1, p.2) ((rule.function_part c.args.depth (view.place c.in_ok-place.place) c.args.at _ c.in_ok-place.ensures.reads.here).fails
    c.in_err-function.field-0.0 c.in_err-function.ensures.reads)

pub returns-clause-reads : goal.returns-clause-reads
returns-clause-reads c =
    rw (views.item-function c.in_ok-function.function)
    ((rule.function_part c.args.depth (view.place c.in_ok-place.place) c.args.at _ c.in_ok-place.ensures.reads.here).took _ _
    c.in_ok-function.ensures.reads)
