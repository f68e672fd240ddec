use Rattle.std.proofs.Common.{◌≡◌, ◌+◌, ◌++◌, ◌∷◌, [], append-nil, map, drop, sym, ap, ◌∙◌}
use Rattle.std.proofs.lemmas.List.{drop_more, drop_all}
use Rattle.std.specs.Option.{option_map}
use Rattle.vl_tree.specs.SyntaxView as view
use Rattle.vl_value.specs.Order.{lesser, least}
use Rattle.vl_found.specs.View.{found}
use Rattle.vl_design.specs.Lists.{each_of}
use Rattle.vl_design.specs.Declarations.{variable_by, words_needs}
use Rattle.vl_span.specs.Plain.{plain_span}
use Rattle.vl_constants.specs.Needed.{constants_of}
use Rattle.vl_declares.specs.Plain.{all_plain, plain_kind}
use Rattle.vl_parameters.proofs.Adding.{one_on, fault_on, fault_end}
use Rattle.vl_declares.proofs.variables.declare_variables.Goals as goal

pub loop-variable-preserved : goal.loop-variable-preserved
loop-variable-preserved c =
    let g = constants_of c.args.frames.now in
    let xs = c.args.variables.now in let k = c.loop-variable.variable-index in let one = c.variable-item.result in
    let by = variable_by g (plain_kind c.args.kind) c.args.signed (plain_span c.args.span) in
    let old = all_plain c.loop-variable.declared.items in
    let left = map view.variable (drop (k + 1) xs) in
    let e : drop k xs ≡ one ∷ drop (k + 1) xs = drop_more xs k one c.loop-variable-test.true ∙ ap (λ y. y ∷ drop (k + 1) xs) (sym c.variable-item.is) in
    record {
      declared = one_on old _ (by (view.variable one)) (map by left) _
          (c.in_ok-push.ensures ∙ ap (λ d. old ++ d ∷ []) c.in_ok-one.ensures.declared)
          (ap (λ ys. old ++ map by (map view.variable ys)) (sym e) ∙ c.loop-variable.invariant.declared);
      fault = fault_on (option_map found c.loop-variable.fault) _ _ (words_needs g (view.variable one)) (each_of (words_needs g) left) _
          c.lesser-fault.ensures c.in_ok-one.ensures.fault
          (ap (λ ys. lesser (option_map found c.loop-variable.fault) (least (each_of (words_needs g) (map view.variable ys)))) (sym e) ∙ c.loop-variable.invariant.fault);
    }

pub returns : goal.returns
returns c =
    let g = constants_of c.args.frames.now in let xs = c.args.variables.now in
    let by = variable_by g (plain_kind c.args.kind) c.args.signed (plain_span c.args.span) in
    let all = all_plain c.loop-variable.declared.items in let f = option_map found c.loop-variable.fault in
    let e = drop_all c.loop-variable.variable-index xs c.loop-variable-test.false in
    record {
      declared = sym (append-nil all) ∙ ap (λ ys. all ++ map by (map view.variable ys)) (sym e) ∙ c.loop-variable.invariant.declared;
      fault = sym (fault_end f) ∙ ap (λ ys. lesser f (least (each_of (words_needs g) (map view.variable ys)))) (sym e) ∙ c.loop-variable.invariant.fault;
    }
