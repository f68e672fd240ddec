use Rattle.std.proofs.Common.{◌≡◌, ◌+◌, true, false, sym, ap, ◌∙◌, drop, length, map, ◌∷◌}
use Rattle.std.proofs.lemmas.List.{drop_more, drop_all}
use Rattle.vl_tree.specs.SyntaxView as view
use Rattle.vl_tree.specs.Depth.{one_if, driven_depths}
use Rattle.vl_tokens.specs.Counted.{in_list}
use Rattle.vl_tokens.proofs.Counting.{sums, none_counted, one_more, all_counted, none_in_list, more_in_list}
use Rattle.vl_tokens.proofs.declaration.driven_in_commas.Goals as goal

pub loop-item-init : goal.loop-item-init
loop-item-init c = none_counted (in_list driven_depths false (map view.driven c.args.all.now))

pub loop-item-preserved : goal.loop-item-preserved
loop-item-preserved c =
    let xs = c.args.all.now in let k = c.loop-item.item-index in let x = c.item-item.result in
    let e : drop k xs ≡ x ∷ drop (k + 1) xs = drop_more xs k x c.loop-item-test.true ∙ ap (λ y. y ∷ drop (k + 1) xs) (sym c.item-item.is) in
    one_more (length (one_if 0 c.loop-item.comma) + length (driven_depths 0 (view.driven x))) (in_list driven_depths true (map view.driven (drop (k + 1) xs))) c.loop-item.invariant c.plus-count.ensures
    (sums (length (one_if 0 c.loop-item.comma)) (length (driven_depths 0 (view.driven x))) c.plus-one.ensures c.one_where.ensures c.driven.ensures)
    (ap (λ ys. in_list driven_depths c.loop-item.comma (map view.driven ys)) e ∙ more_in_list driven_depths c.loop-item.comma (view.driven x) (map view.driven (drop (k + 1) xs)))

pub returns : goal.returns
returns c = all_counted c.loop-item.invariant
    (ap (λ ys. in_list driven_depths c.loop-item.comma (map view.driven ys)) (drop_all c.loop-item.item-index c.args.all.now c.loop-item-test.false) ∙ none_in_list driven_depths c.loop-item.comma)
