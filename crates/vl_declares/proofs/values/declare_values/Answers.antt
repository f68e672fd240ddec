use Rattle.std.proofs.Common.{◌≡◌, ◌+◌, ◌++◌, ◌∷◌, append-nil, map, drop, sym, ap, ◌∙◌}
use Rattle.std.proofs.lemmas.List.{drop_more, drop_all}
use Rattle.std.specs.Option.{option_map}
use Rattle.vl_tree.specs.SyntaxView as view
use Rattle.vl_value.specs.Order.{lesser, least}
use Rattle.vl_found.specs.View.{found}
use Rattle.vl_design.specs.Constants.{Known, with_constant}
use Rattle.vl_design.specs.Generate.{Around}
use Rattle.vl_design.specs.Parameters.{values_worth, value_needs, after_values, parameter_worth, parameter_needs}
use Rattle.vl_design.specs.Declarations.{parameter, parameter_by}
use Rattle.vl_constants.specs.Needed.{constants_of}
use Rattle.vl_parameters.specs.Plain.{plain_given, plain_type}
use Rattle.vl_declares.specs.Plain.{all_plain}
use Rattle.vl_parameters.proofs.Adding.{one_on, fault_on, fault_end}
use Rattle.vl_declares.proofs.values.declare_values.Goals as goal

pub loop-value-preserved : goal.loop-value-preserved
loop-value-preserved c =
    let gs = map plain_given c.args.given.now in let t = plain_type c.args.kind in
    let xs = c.args.values.now in let n = c.loop-value.value-index in let one = c.value-item.result in
    let v = view.valued one in let left = map view.valued (drop (n + 1) xs) in
    let k = constants_of c.loop-value.frames in let w = parameter_worth gs k t v.name v.value in
    let h = c.loop-value.invariant in let d = c.in_ok-found.ensures in
    let kn : constants_of c.declare_one.new.frames ≡ with_constant v.name.text w k = ap (λ (a : Around). a.known) d.sight in
    let old = all_plain c.loop-value.declared.items in let new = all_plain c.declare_one.new.declared.items in
    let f = option_map found c.loop-value.fault in let m = option_map found c.lesser-fault.result in
    let e : drop n xs ≡ one ∷ drop (n + 1) xs = drop_more xs n one c.loop-value-test.true ∙ ap (λ y. y ∷ drop (n + 1) xs) (sym c.value-item.is) in
    record {
      added = ap (λ (q : Known). new ++ map parameter_by (values_worth gs t q left)) kn
          ∙ one_on old new (parameter v.name w) (map parameter_by (values_worth gs t (with_constant v.name.text w k) left)) _ d.added
          (ap (λ ys. old ++ map parameter_by (values_worth gs t k (map view.valued ys))) (sym e) ∙ h.added);
      fault = ap (λ (q : Known). lesser m (least (value_needs gs t q left))) kn
          ∙ fault_on f _ m (parameter_needs gs k t v.name v.value) (value_needs gs t (with_constant v.name.text w k) left) _
          c.lesser-fault.ensures d.fault
          (ap (λ ys. lesser f (least (value_needs gs t k (map view.valued ys)))) (sym e) ∙ h.fault);
      known = ap (λ (q : Known). after_values gs t q left) kn
          ∙ ap (λ ys. after_values gs t k (map view.valued ys)) (sym e) ∙ h.known;
      genvars = ap (λ (a : Around). a.is_genvar) d.sight ∙ h.genvars;
      outer = d.outer ∙ h.outer;
    }

pub returns : goal.returns
returns c =
    let gs = map plain_given c.args.given.now in let t = plain_type c.args.kind in
    let xs = c.args.values.now in let h = c.loop-value.invariant in
    let k = constants_of c.loop-value.frames in
    let all = all_plain c.loop-value.declared.items in let f = option_map found c.loop-value.fault in
    let e = drop_all c.loop-value.value-index xs c.loop-value-test.false in
    record {
      added = sym (append-nil all) ∙ ap (λ ys. all ++ map parameter_by (values_worth gs t k (map view.valued ys))) (sym e) ∙ h.added;
      fault = sym (fault_end f) ∙ ap (λ ys. lesser f (least (value_needs gs t k (map view.valued ys)))) (sym e) ∙ h.fault;
      known = ap (λ ys. after_values gs t k (map view.valued ys)) (sym e) ∙ h.known;
      genvars = h.genvars;
      outer = h.outer;
    }
