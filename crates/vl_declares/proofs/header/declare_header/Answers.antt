use Rattle.std.proofs.Common.{◌≡◌, ◌+◌, ◌++◌, ◌∷◌, append-nil, append_assoc, map, drop, sym, ap, ◌∙◌}
use Rattle.std.proofs.lemmas.List.{drop_more, drop_all, map-append}
use Rattle.std.specs.Option.{option_map}
use Rattle.vl_tree.specs.SyntaxView as view
use Rattle.vl_value.specs.Order.{lesser, least}
use Rattle.vl_found.specs.View.{found}
use Rattle.vl_design.specs.Spans.{range_needs}
use Rattle.vl_design.specs.Parameters.{ParameterType, header_worth, header_needs, after_header, header_type, header_range, header_values, values_worth, value_needs, after_values}
use Rattle.vl_design.specs.Declarations.{parameter_by}
use Rattle.vl_constants.specs.Needed.{constants_of}
use Rattle.vl_parameters.specs.Plain.{plain_given, plain_type}
use Rattle.vl_declares.specs.Plain.{all_plain}
use Rattle.vl_parameters.proofs.Adding.{some_on, fault_on, fault_end}
use Rattle.vl_declares.proofs.header.declare_header.Goals as goal

pub loop-one-preserved : goal.loop-one-preserved
loop-one-preserved c =
    let gs = map plain_given c.args.given.now in let t = plain_type c.loop-one.kind in
    let xs = c.args.parameters.now in let n = c.loop-one.one-index in let one = c.one-item.result in
    let v = view.header_parameter one in let left = map view.header_parameter (drop (n + 1) xs) in
    let k = constants_of c.loop-one.frames in let u = header_type k t v in
    let h = c.loop-one.invariant in let d = c.in_ok-typed.ensures in
    let q = constants_of c.declare_header_one.new.frames in let y = plain_type c.in_ok-typed.typed.kind in
    let z = after_values gs u k (header_values v) in
    let kn : q ≡ z = d.known ∙ ap (λ (r : ParameterType). after_values gs r k (header_values v)) d.kind in
    let old = all_plain c.loop-one.declared.items in let new = all_plain c.declare_header_one.new.declared.items in
    let f = option_map found c.loop-one.fault in let m = option_map found c.lesser-fault.result in
    let worths = values_worth gs u k (header_values v) in let rest = header_worth gs u z left in
    let e : drop n xs ≡ one ∷ drop (n + 1) xs = drop_more xs n one c.loop-one-test.true ∙ ap (λ y. y ∷ drop (n + 1) xs) (sym c.one-item.is) in
    record {
      added = (λ i. new ++ map parameter_by (header_worth gs (d.kind i) (kn i) left))
          ∙ some_on old new (map parameter_by worths) (map parameter_by rest) _
          (d.added ∙ ap (λ (r : ParameterType). old ++ map parameter_by (values_worth gs r k (header_values v))) d.kind)
          (ap (λ ds. old ++ ds) (sym (map-append parameter_by worths rest))
          ∙ ap (λ ys. old ++ map parameter_by (header_worth gs t k (map view.header_parameter ys))) (sym e) ∙ h.added);
      fault = (λ i. lesser m (least (header_needs gs (d.kind i) (kn i) left)))
          ∙ fault_on f _ m (range_needs k (header_range v) ++ value_needs gs u k (header_values v)) (header_needs gs u z left) _
          c.lesser-fault.ensures
          (d.fault ∙ ap (λ (r : ParameterType). least (range_needs k (header_range v) ++ value_needs gs r k (header_values v))) d.kind)
          (ap (λ fs. lesser f (least fs)) (append_assoc (range_needs k (header_range v)) (value_needs gs u k (header_values v)) (header_needs gs u z left))
          ∙ ap (λ ys. lesser f (least (header_needs gs t k (map view.header_parameter ys)))) (sym e) ∙ h.fault);
      known = (λ i. after_header gs (d.kind i) (kn i) left)
          ∙ ap (λ ys. after_header gs t k (map view.header_parameter ys)) (sym e) ∙ h.known;
      genvars = d.genvars ∙ h.genvars;
      outer = d.outer ∙ h.outer;
    }

pub returns : goal.returns
returns c =
    let gs = map plain_given c.args.given.now in let t = plain_type c.loop-one.kind in
    let xs = c.args.parameters.now in let h = c.loop-one.invariant in
    let k = constants_of c.loop-one.frames in
    let all = all_plain c.loop-one.declared.items in let f = option_map found c.loop-one.fault in
    let e = drop_all c.loop-one.one-index xs c.loop-one-test.false in
    record {
      added = sym (append-nil all) ∙ ap (λ ys. all ++ map parameter_by (header_worth gs t k (map view.header_parameter ys))) (sym e) ∙ h.added;
      fault = sym (fault_end f) ∙ ap (λ ys. lesser f (least (header_needs gs t k (map view.header_parameter ys)))) (sym e) ∙ h.fault;
      known = ap (λ ys. after_header gs t k (map view.header_parameter ys)) (sym e) ∙ h.known;
      genvars = h.genvars;
      outer = h.outer;
    }
