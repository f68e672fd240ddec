use Rattle.std.proofs.Common.{◌≡◌, ◌+◌, ◌++◌, ◌∷◌, [], append-nil, append_assoc, map, drop, sym, ap, ◌∙◌}
use Rattle.std.proofs.lemmas.List.{drop_more, drop_all}
use Rattle.vl_tree.specs.SyntaxView as view
use Rattle.vl_parameters.specs.Open.{texts_of, value_names}
use Rattle.vl_parameters.proofs.open.open_values.Goals as goal

pub loop-value-preserved : goal.loop-value-preserved
loop-value-preserved c =
    let xs = c.args.values.now in let k = c.loop-value.value-index in let one = c.value-item.result in
    let old = texts_of c.loop-value.names.items in let rest = value_names (map view.valued (drop (k + 1) xs)) in
    let e : drop k xs ≡ one ∷ drop (k + 1) xs = drop_more xs k one c.loop-value-test.true ∙ ap (λ y. y ∷ drop (k + 1) xs) (sym c.value-item.is) in
    ap (λ l. l ++ rest) (c.in_ok-add.ensures) ∙ append_assoc old (_ ∷ []) rest
    ∙ ap (λ ys. old ++ value_names (map view.valued ys)) (sym e) ∙ c.loop-value.invariant

pub returns : goal.returns
returns c =
    let names = texts_of c.loop-value.names.items in
    sym (append-nil names) ∙ ap (λ ys. names ++ value_names (map view.valued ys)) (sym (drop_all c.loop-value.value-index c.args.values.now c.loop-value-test.false))
    ∙ c.loop-value.invariant
