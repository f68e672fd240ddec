use Rattle.std.proofs.Common.{◌≡◌, ◌+◌, ◌++◌, ◌∷◌, [], append-nil, map, drop, sym, ap, ◌∙◌}
use Rattle.std.proofs.lemmas.List.{drop_more, drop_all}
use Rattle.std.specs.Prelude.{if◌then◌else◌}
use Rattle.std.specs.Option.{option_map}
use Rattle.vl_tree.specs.SyntaxView as view
use Rattle.vl_value.specs.Order.{lesser, least}
use Rattle.vl_found.specs.View.{found}
use Rattle.vl_design.specs.Lists.{stands_in}
use Rattle.vl_design.specs.Parameters.{given_by_name, name_faults}
use Rattle.vl_constants.specs.Needed.{constants_of}
use Rattle.vl_parameters.specs.Gifts.{bind_gives, bind_faults}
use Rattle.vl_parameters.specs.Open.{texts_of}
use Rattle.vl_parameters.specs.Plain.{plain_given}
use Rattle.vl_parameters.proofs.Adding.{some_on, fault_on, fault_end}
use Rattle.vl_parameters.proofs.Giving.{bound_on, by_name_on}
use Rattle.vl_parameters.proofs.given.given_by_name.Goals as goal

pub loop-bind-preserved : goal.loop-bind-preserved
loop-bind-preserved c =
    let g = constants_of c.args.frames.now in let xs = texts_of c.args.texts.now in
    let all = c.args.binds.now in let k = c.loop-bind.bind-index in let one = c.bind-item.result in
    let b = view.named_bind one in let x = b.name.text in let left = map view.named_bind (drop (k + 1) all) in
    let h = c.loop-bind.invariant in let before = h.0 in
    let e : drop k all ≡ one ∷ drop (k + 1) all = drop_more all k one c.loop-bind-test.true ∙ ap (λ y. y ∷ drop (k + 1) all) (sym c.bind-item.is) in
    let is_open : c.has-is_open.result ≡ stands_in xs x = c.has-is_open.ensures ∙ c.in_ok-names.ensures x in
    let is_bound : c.has-is_bound.result ≡ stands_in before x = c.has-is_bound.ensures ∙ h.1 x in
    let old = map plain_given c.loop-bind.given.items in let f = option_map found c.loop-bind.fault in (
      x ∷ before,
      bound_on c.loop-bind.bound c.add.new.self x before c.in_ok-add.ensures h.1,
      some_on old _ (if stands_in xs x then bind_gives g b else []) (given_by_name g xs left) _
          (c.in_ok-found.ensures.given ∙ ap (λ o. old ++ (if o then bind_gives g b else [])) is_open)
          (ap (λ gs. old ++ gs) (sym (by_name_on g xs b left)) ∙ ap (λ bs. old ++ given_by_name g xs (map view.named_bind bs)) (sym e) ∙ h.2),
      fault_on f _ _ (bind_faults g (stands_in xs x) (stands_in before x) b) (name_faults g xs (x ∷ before) left) _
          c.lesser-fault.ensures (c.in_ok-found.ensures.fault ∙ (λ i. least (bind_faults g (is_open i) (is_bound i) b)))
          (ap (λ bs. lesser f (least (name_faults g xs before (map view.named_bind bs)))) (sym e) ∙ h.3),
    )

pub returns : goal.returns
returns c =
    let g = constants_of c.args.frames.now in let xs = texts_of c.args.texts.now in
    let h = c.loop-bind.invariant in
    let old = map plain_given c.loop-bind.given.items in let f = option_map found c.loop-bind.fault in
    let e = drop_all c.loop-bind.bind-index c.args.binds.now c.loop-bind-test.false in
    record {
      given = sym (append-nil old) ∙ ap (λ bs. old ++ given_by_name g xs (map view.named_bind bs)) (sym e) ∙ h.2;
      fault = sym (fault_end f) ∙ ap (λ bs. lesser f (least (name_faults g xs h.0 (map view.named_bind bs)))) (sym e) ∙ h.3;
    }
