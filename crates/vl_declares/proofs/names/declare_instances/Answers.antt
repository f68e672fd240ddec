use Rattle.std.proofs.Common.{◌≡◌, ◌+◌, ◌++◌, ◌∷◌, [], append-nil, append_assoc, map, drop, sym, ap, ◌∙◌}
use Rattle.std.proofs.lemmas.List.{drop_more, drop_all}
use Rattle.vl_tree.specs.SyntaxView as view
use Rattle.vl_declares.specs.Plain.{all_plain, inner_ones}
use Rattle.vl_declares.proofs.names.declare_instances.Goals as goal

pub loop-instance-preserved : goal.loop-instance-preserved
loop-instance-preserved c =
    let xs = c.args.instances.now in let k = c.loop-instance.instance-index in let one = c.instance-item.result in
    let old = all_plain c.loop-instance.declared.items in let rest = inner_ones (map view.instance (drop (k + 1) xs)) in
    let e : drop k xs ≡ one ∷ drop (k + 1) xs = drop_more xs k one c.loop-instance-test.true ∙ ap (λ y. y ∷ drop (k + 1) xs) (sym c.instance-item.is) in
    ap (λ l. l ++ rest) (c.in_ok-push.ensures) ∙ append_assoc old (_ ∷ []) rest
    ∙ ap (λ ys. old ++ inner_ones (map view.instance ys)) (sym e) ∙ c.loop-instance.invariant

pub returns : goal.returns
returns c =
    let all = all_plain c.loop-instance.declared.items in
    sym (append-nil all) ∙ ap (λ ys. all ++ inner_ones (map view.instance ys)) (sym (drop_all c.loop-instance.instance-index c.args.instances.now c.loop-instance-test.false))
    ∙ c.loop-instance.invariant
