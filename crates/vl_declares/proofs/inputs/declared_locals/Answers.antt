use Rattle.std.proofs.Common.{◌≡◌, ◌+◌, ◌++◌, ◌∷◌, append-nil, map, drop, sym, ap, ◌∙◌}
use Rattle.std.proofs.lemmas.List.{drop_more, drop_all}
use Rattle.std.specs.Option.{option_map}
use Rattle.vl_tree.specs.SyntaxView as view
use Rattle.vl_value.specs.Order.{lesser, least}
use Rattle.vl_found.specs.View.{found}
use Rattle.vl_design.specs.Lists.{each_of}
use Rattle.vl_design.specs.Declarations.{declared_locals, declaration_needs}
use Rattle.vl_constants.specs.Needed.{constants_of}
use Rattle.vl_declares.specs.Locals.{all_locals}
use Rattle.vl_parameters.proofs.Adding.{some_on, fault_on, fault_end}
use Rattle.vl_declares.proofs.inputs.declared_locals.Goals as goal

pub loop-declaration-preserved : goal.loop-declaration-preserved
loop-declaration-preserved c =
    let g = constants_of c.args.frames.now in
    let xs = c.args.declarations.now in let k = c.loop-declaration.declaration-index in let one = c.declaration-item.result in
    let d = view.function_declaration one in let left = map view.function_declaration (drop (k + 1) xs) in
    let old = all_locals c.loop-declaration.locals.items in let new = all_locals c.locals_by.new.locals.items in
    let f = option_map found c.loop-declaration.fault in let h = c.loop-declaration.invariant in
    let e : drop k xs ≡ one ∷ drop (k + 1) xs = drop_more xs k one c.loop-declaration-test.true ∙ ap (λ y. y ∷ drop (k + 1) xs) (sym c.declaration-item.is) in
    record {
      added = some_on old new (declared_locals g d) (each_of (declared_locals g) left) _ c.in_ok-found.ensures.added
          (ap (λ ys. old ++ each_of (declared_locals g) (map view.function_declaration ys)) (sym e) ∙ h.added);
      fault = fault_on f _ (option_map found c.lesser-fault.result) (declaration_needs g d) (each_of (declaration_needs g) left) _
          c.lesser-fault.ensures c.in_ok-found.ensures.fault
          (ap (λ ys. lesser f (least (each_of (declaration_needs g) (map view.function_declaration ys)))) (sym e) ∙ h.fault);
    }

pub returns : goal.returns
returns c =
    let g = constants_of c.args.frames.now in let xs = c.args.declarations.now in let h = c.loop-declaration.invariant in
    let all = all_locals c.loop-declaration.locals.items in let f = option_map found c.loop-declaration.fault in
    let e = drop_all c.loop-declaration.declaration-index xs c.loop-declaration-test.false in
    record {
      added = sym (append-nil all) ∙ ap (λ ys. all ++ each_of (declared_locals g) (map view.function_declaration ys)) (sym e) ∙ h.added;
      fault = sym (fault_end f) ∙ ap (λ ys. lesser f (least (each_of (declaration_needs g) (map view.function_declaration ys)))) (sym e) ∙ h.fault;
    }
