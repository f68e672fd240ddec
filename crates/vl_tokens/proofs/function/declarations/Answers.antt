use Rattle.std.proofs.Common.{◌≡◌, ◌+◌, sym, ap, ◌∙◌, drop, length, map, ◌∷◌}
use Rattle.std.proofs.lemmas.List.{drop_more, drop_all}
use Rattle.vl_tree.specs.SyntaxView as view
use Rattle.vl_tree.specs.Depth.{function_declaration_depths, each_depth}
use Rattle.vl_tokens.proofs.Counting.{none_counted, one_more, all_counted}
use Rattle.vl_tokens.proofs.DeclarationParts.{more_declarations}
use Rattle.vl_tokens.proofs.function.declarations.Goals as goal

pub loop-item-init : goal.loop-item-init
loop-item-init c = none_counted (length (each_depth function_declaration_depths 0 (map view.function_declaration c.args.all.now)))

pub loop-item-preserved : goal.loop-item-preserved
loop-item-preserved c =
    let xs = c.args.all.now in let k = c.loop-item.item-index in let x = c.item-item.result in
    let e : drop k xs ≡ x ∷ drop (k + 1) xs = drop_more xs k x c.loop-item-test.true ∙ ap (λ y. y ∷ drop (k + 1) xs) (sym c.item-item.is) in
    one_more (length (function_declaration_depths 0 (view.function_declaration x))) (length (each_depth function_declaration_depths 0 (map view.function_declaration (drop (k + 1) xs)))) c.loop-item.invariant c.plus-count.ensures
    c.declaration-one.ensures
    (ap (λ ys. length (each_depth function_declaration_depths 0 (map view.function_declaration ys))) e ∙ more_declarations (view.function_declaration x) (map view.function_declaration (drop (k + 1) xs)))

pub returns : goal.returns
returns c = all_counted c.loop-item.invariant
    (ap (λ ys. length (each_depth function_declaration_depths 0 (map view.function_declaration ys))) (drop_all c.loop-item.item-index c.args.all.now c.loop-item-test.false))
