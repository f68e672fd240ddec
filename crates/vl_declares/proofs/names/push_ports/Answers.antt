use Rattle.std.proofs.Common.{◌≡◌, ◌+◌, ◌++◌, ◌∷◌, [], append-nil, append_assoc, map, drop, sym, ap, ◌∙◌}
use Rattle.std.proofs.lemmas.List.{drop_more, drop_all}
use Rattle.vl_tree.specs.SyntaxView as view
use Rattle.vl_span.specs.Plain.{plain_span}
use Rattle.vl_declares.specs.Plain.{all_plain, ports}
use Rattle.vl_declares.proofs.names.push_ports.Goals as goal

pub loop-name-preserved : goal.loop-name-preserved
loop-name-preserved c =
    let xs = c.args.names.now in let k = c.loop-name.name-index in let one = c.name-item.result in
    let old = all_plain c.loop-name.declared.items in let rest = ports (view.directed c.args.directed.now) (plain_span c.args.span) (map view.name (drop (k + 1) xs)) in
    let e : drop k xs ≡ one ∷ drop (k + 1) xs = drop_more xs k one c.loop-name-test.true ∙ ap (λ y. y ∷ drop (k + 1) xs) (sym c.name-item.is) in
    ap (λ l. l ++ rest) (c.in_ok-push.ensures ∙ ap (λ one. all_plain c.loop-name.declared.items ++ one ∷ []) c.port_by.ensures) ∙ append_assoc old (_ ∷ []) rest
    ∙ ap (λ ys. old ++ ports (view.directed c.args.directed.now) (plain_span c.args.span) (map view.name ys)) (sym e) ∙ c.loop-name.invariant

pub returns : goal.returns
returns c =
    let all = all_plain c.loop-name.declared.items in
    sym (append-nil all) ∙ ap (λ ys. all ++ ports (view.directed c.args.directed.now) (plain_span c.args.span) (map view.name ys)) (sym (drop_all c.loop-name.name-index c.args.names.now c.loop-name-test.false))
    ∙ c.loop-name.invariant
