use Rattle.std.proofs.lemmas.Result.{err_from_is_err_and}
use Rattle.vl_tree.specs.declared.token.Key.TheVariants as w
use Rattle.vl_tree.specs.Token as k
use Rattle.vl_declaration.proofs.Parts.{first, next, found}
use Rattle.vl_item.proofs.ItemRules as rule
use Rattle.vl_item.proofs.Views as views
use Rattle.vl_item.proofs.item.read_initial.Goals as goal

pub returns-in_err-place-clause-reads : goal.returns-in_err-place-clause-reads
returns-in_err-place-clause-reads c =
    let d = c.args.depth in
    let p = err_from_is_err_and c.from_residual.result c.from_residual.ensures.1 in
    rw (p.1, p.2)
    (first (found d (k.key w.Initial)) (rule.statement d) (rule.initial_j0 d)
    (rule.initial_whole d _) c.in_err-place.field-0.0 c.in_err-place.ensures.reads)

pub returns-in_err-body-clause-reads : goal.returns-in_err-body-clause-reads
returns-in_err-body-clause-reads c =
    let d = c.args.depth in
    let l1 = next (found d (k.key w.Initial)) (rule.statement d) (rule.initial_j0 d) (rule.initial_whole d c.args.at)
    _ _ c.in_ok-place.ensures.reads in
    let p = err_from_is_err_and c.from_residual-in_err-body.result c.from_residual-in_err-body.ensures.1 in
    rw (p.1, p.2) (l1.fails c.in_err-body.field-0.0 c.in_err-body.ensures.reads)

pub returns-clause-reads : goal.returns-clause-reads
returns-clause-reads c =
    let d = c.args.depth in
    let l1 = next (found d (k.key w.Initial)) (rule.statement d) (rule.initial_j0 d) (rule.initial_whole d c.args.at)
    _ _ c.in_ok-place.ensures.reads in
    rw (views.item-initial c.in_ok-place.place c.in_ok-body.body) (l1.took _ _ c.in_ok-body.ensures.reads)
