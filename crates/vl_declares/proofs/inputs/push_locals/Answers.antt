use Rattle.std.proofs.Common.{◌≡◌, ◌+◌, ◌++◌, ◌∷◌, [], append-nil, map, drop, sym, ap, ◌∙◌}
use Rattle.std.proofs.lemmas.List.{drop_more, drop_all}
use Rattle.vl_tree.specs.SyntaxView as view
use Rattle.vl_span.specs.Plain.{plain_span}
use Rattle.vl_declares.specs.Locals.{all_locals, locals_named}
use Rattle.vl_parameters.proofs.Adding.{some_on}
use Rattle.vl_declares.proofs.inputs.push_locals.Goals as goal

pub loop-name-preserved : goal.loop-name-preserved
loop-name-preserved c =
    let xs = c.args.names.now in let k = c.loop-name.name-index in let one = c.name-item.result in
    let of = locals_named c.args.signed (plain_span c.args.span) in
    let old = all_locals c.loop-name.locals.items in let new = all_locals c.push_local.new.locals.items in
    let e : drop k xs ≡ one ∷ drop (k + 1) xs = drop_more xs k one c.loop-name-test.true ∙ ap (λ y. y ∷ drop (k + 1) xs) (sym c.name-item.is) in
    some_on old new (_ ∷ []) (of (map view.name (drop (k + 1) xs))) _ c.in_ok-push_local.ensures
    (ap (λ ys. old ++ of (map view.name ys)) (sym e) ∙ c.loop-name.invariant)

pub returns : goal.returns
returns c =
    let of = locals_named c.args.signed (plain_span c.args.span) in
    let all = all_locals c.loop-name.locals.items in
    sym (append-nil all) ∙ ap (λ ys. all ++ of (map view.name ys)) (sym (drop_all c.loop-name.name-index c.args.names.now c.loop-name-test.false))
    ∙ c.loop-name.invariant
