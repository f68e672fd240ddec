use Rattle.std.proofs.Common.{◌≡◌, ◌+◌, ◌++◌, ◌∷◌, [], append-nil, map, drop, sym, ap, ◌∙◌}
use Rattle.std.proofs.lemmas.List.{drop_more, drop_all}
use Rattle.std.specs.Option.{option_map}
use Rattle.vl_tree.specs.SyntaxView as view
use Rattle.vl_value.specs.Order.{lesser, least}
use Rattle.vl_found.specs.View.{found}
use Rattle.vl_design.specs.Lists.{each_of}
use Rattle.vl_design.specs.Declarations.{Local, header_inputs, input_needs}
use Rattle.vl_span.specs.Plain.{plain_span}
use Rattle.vl_constants.specs.Needed.{constants_of}
use Rattle.vl_declares.specs.Locals.{all_locals, input_here}
use Rattle.vl_parameters.proofs.Adding.{some_on, fault_on, fault_end}
use Rattle.vl_declares.proofs.Adding.{inputs_on}
use Rattle.vl_declares.proofs.inputs.header_inputs.Goals as goal

pub loop-port-preserved : goal.loop-port-preserved
loop-port-preserved c =
    let g = constants_of c.args.frames.now in
    let xs = c.args.ports.now in let k = c.loop-port.port-index in let one = c.port-item.result in
    let p = view.function_port one in let left = map view.function_port (drop (k + 1) xs) in
    let s = c.loop-port.signed in let sp = plain_span c.loop-port.span in let i = input_here g s sp p in
    let d = c.in_ok-input.ensures in let local = c.in_ok-input.input.local in
    let old = all_locals c.loop-port.locals.items in let new = all_locals c.push_local.new.locals.items in
    let f = option_map found c.loop-port.fault in let h = c.loop-port.invariant in
    let e : drop k xs ≡ one ∷ drop (k + 1) xs = drop_more xs k one c.loop-port-test.true ∙ ap (λ y. y ∷ drop (k + 1) xs) (sym c.port-item.is) in
    record {
      added = ap (λ (l : Local). new ++ header_inputs g l.signed l.span left) d.local
          ∙ some_on old new (i ∷ []) (header_inputs g i.signed i.span left) _
          (c.in_ok-push_local.ensures ∙ ap (λ (l : Local). old ++ l ∷ []) d.local)
          (ap (λ ls. old ++ ls) (sym (inputs_on g s sp p left))
          ∙ ap (λ ys. old ++ header_inputs g s sp (map view.function_port ys)) (sym e) ∙ h.added);
      fault = fault_on f _ (option_map found c.lesser-fault.result) (input_needs g p) (each_of (input_needs g) left) _
          c.lesser-fault.ensures d.fault
          (ap (λ ys. lesser f (least (each_of (input_needs g) (map view.function_port ys)))) (sym e) ∙ h.fault);
    }

pub returns : goal.returns
returns c =
    let g = constants_of c.args.frames.now in let xs = c.args.ports.now in let h = c.loop-port.invariant in
    let s = c.loop-port.signed in let sp = plain_span c.loop-port.span in
    let all = all_locals c.loop-port.locals.items in let f = option_map found c.loop-port.fault in
    let e = drop_all c.loop-port.port-index xs c.loop-port-test.false in
    record {
      added = sym (append-nil all) ∙ ap (λ ys. all ++ header_inputs g s sp (map view.function_port ys)) (sym e) ∙ h.added;
      fault = sym (fault_end f) ∙ ap (λ ys. lesser f (least (each_of (input_needs g) (map view.function_port ys)))) (sym e) ∙ h.fault;
    }
