use Rattle.std.proofs.Common.{◌≡◌, ◌+◌, ◌++◌, ◌∷◌, [], append-nil, append_assoc, map, drop, sym, ap, ◌∙◌}
use Rattle.std.proofs.lemmas.List.{drop_more, drop_all}
use Rattle.vl_tree.specs.SyntaxView as view
use Rattle.vl_span.specs.Plain.{plain_span}
use Rattle.vl_declares.specs.Plain.{all_plain, nets}
use Rattle.vl_declares.proofs.names.push_nets.Goals as goal

pub loop-net-preserved : goal.loop-net-preserved
loop-net-preserved c =
    let xs = c.args.nets.now in let k = c.loop-net.net-index in let one = c.net-item.result in
    let old = all_plain c.loop-net.declared.items in let rest = nets c.args.signed (plain_span c.args.span) (map view.net (drop (k + 1) xs)) in
    let e : drop k xs ≡ one ∷ drop (k + 1) xs = drop_more xs k one c.loop-net-test.true ∙ ap (λ y. y ∷ drop (k + 1) xs) (sym c.net-item.is) in
    ap (λ l. l ++ rest) (c.in_ok-push.ensures) ∙ append_assoc old (_ ∷ []) rest
    ∙ ap (λ ys. old ++ nets c.args.signed (plain_span c.args.span) (map view.net ys)) (sym e) ∙ c.loop-net.invariant

pub returns : goal.returns
returns c =
    let all = all_plain c.loop-net.declared.items in
    sym (append-nil all) ∙ ap (λ ys. all ++ nets c.args.signed (plain_span c.args.span) (map view.net ys)) (sym (drop_all c.loop-net.net-index c.args.nets.now c.loop-net-test.false))
    ∙ c.loop-net.invariant
