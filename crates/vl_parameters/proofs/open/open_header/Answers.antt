use Rattle.std.proofs.Common.{◌≡◌, ◌+◌, ◌++◌, ◌∷◌, [], append-nil, append_assoc, map, drop, sym, ap, ◌∙◌}
use Rattle.std.proofs.lemmas.List.{drop_more, drop_all}
use Rattle.vl_tree.specs.Syntax.{Name}
use Rattle.vl_tree.specs.SyntaxView as view
use Rattle.vl_parameters.specs.Open.{texts_of, header_names}
use Rattle.vl_parameters.proofs.open.open_header.Goals as goal

pub loop-one-preserved : goal.loop-one-preserved
loop-one-preserved c =
    let xs = c.args.parameters.now in let k = c.loop-one.one-index in let one = c.one-item.result in
    let old = texts_of c.loop-one.names.items in let rest = header_names (map view.header_parameter (drop (k + 1) xs)) in
    let e : drop k xs ≡ one ∷ drop (k + 1) xs = drop_more xs k one c.loop-one-test.true ∙ ap (λ y. y ∷ drop (k + 1) xs) (sym c.one-item.is) in
    ap (λ l. l ++ rest) (c.in_ok-add.ensures ∙ ap (λ (n : Name). texts_of c.loop-one.names.items ++ n.text ∷ []) c.header_name.ensures) ∙ append_assoc old (_ ∷ []) rest
    ∙ ap (λ ys. old ++ header_names (map view.header_parameter ys)) (sym e) ∙ c.loop-one.invariant

pub returns : goal.returns
returns c =
    let names = texts_of c.loop-one.names.items in
    sym (append-nil names) ∙ ap (λ ys. names ++ header_names (map view.header_parameter ys)) (sym (drop_all c.loop-one.one-index c.args.parameters.now c.loop-one-test.false))
    ∙ c.loop-one.invariant
