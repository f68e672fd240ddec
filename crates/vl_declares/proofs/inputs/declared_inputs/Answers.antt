use Rattle.std.proofs.Common.{◌≡◌, ◌+◌, ◌++◌, ◌∷◌, append-nil, map, drop, sym, ap, ◌∙◌}
use Rattle.std.proofs.lemmas.List.{drop_more, drop_all}
use Rattle.vl_tree.specs.SyntaxView as view
use Rattle.vl_design.specs.Lists.{each_of}
use Rattle.vl_design.specs.Declarations.{declared_inputs}
use Rattle.vl_constants.specs.Needed.{constants_of}
use Rattle.vl_declares.specs.Locals.{all_locals}
use Rattle.vl_parameters.proofs.Adding.{some_on}
use Rattle.vl_declares.proofs.inputs.declared_inputs.Goals as goal

pub loop-declaration-preserved : goal.loop-declaration-preserved
loop-declaration-preserved c =
    let g = constants_of c.args.frames.now in
    let xs = c.args.declarations.now in let k = c.loop-declaration.declaration-index in let one = c.declaration-item.result in
    let d = view.function_declaration one in let left = map view.function_declaration (drop (k + 1) xs) in
    let old = all_locals c.loop-declaration.locals.items in let new = all_locals c.inputs_by.new.locals.items in
    let e : drop k xs ≡ one ∷ drop (k + 1) xs = drop_more xs k one c.loop-declaration-test.true ∙ ap (λ y. y ∷ drop (k + 1) xs) (sym c.declaration-item.is) in
    some_on old new (declared_inputs g d) (each_of (declared_inputs g) left) _ c.in_ok-inputs_by.ensures
    (ap (λ ys. old ++ each_of (declared_inputs g) (map view.function_declaration ys)) (sym e) ∙ c.loop-declaration.invariant)

pub returns : goal.returns
returns c =
    let g = constants_of c.args.frames.now in
    let all = all_locals c.loop-declaration.locals.items in
    sym (append-nil all)
    ∙ ap (λ ys. all ++ each_of (declared_inputs g) (map view.function_declaration ys)) (sym (drop_all c.loop-declaration.declaration-index c.args.declarations.now c.loop-declaration-test.false))
    ∙ c.loop-declaration.invariant
