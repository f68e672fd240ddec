use Rattle.std.proofs.Common.{◌≡◌, ◌+◌, ◌++◌, ◌∷◌, [], append-nil, drop, sym, ap, ◌∙◌}
use Rattle.std.proofs.lemmas.List.{drop_more, drop_all}
use Rattle.vl_declares.specs.Locals.{all_locals}
use Rattle.vl_parameters.proofs.Adding.{some_on}
use Rattle.vl_declares.proofs.inputs.push_all.Goals as goal

pub loop-one-preserved : goal.loop-one-preserved
loop-one-preserved c =
    let xs = c.args.others.now in let k = c.loop-one.one-index in let one = c.one-item.result in
    let old = all_locals c.loop-one.locals.items in let new = all_locals c.push_local.new.locals.items in
    let e : drop k xs ≡ one ∷ drop (k + 1) xs = drop_more xs k one c.loop-one-test.true ∙ ap (λ y. y ∷ drop (k + 1) xs) (sym c.one-item.is) in
    some_on old new (_ ∷ []) (all_locals (drop (k + 1) xs)) _ c.in_ok-push_local.ensures
    (ap (λ ys. old ++ all_locals ys) (sym e) ∙ c.loop-one.invariant)

pub returns : goal.returns
returns c =
    let all = all_locals c.loop-one.locals.items in
    sym (append-nil all) ∙ ap (λ ys. all ++ all_locals ys) (sym (drop_all c.loop-one.one-index c.args.others.now c.loop-one-test.false))
    ∙ c.loop-one.invariant
