use Rattle.std.proofs.Common.{◌≡◌, ◌++◌, ◌∷◌, [], false, sym, ap, ◌∙◌}
use Rattle.vl_tree.specs.SyntaxView as view
use Rattle.vl_value.specs.Order.{lesser, least}
use Rattle.vl_value.proofs.OrderLaws.{least_joined}
use Rattle.vl_design.specs.Lists.{each_of}
use Rattle.vl_design.specs.Spans.{one_bit}
use Rattle.vl_design.specs.Constants.{Known}
use Rattle.vl_design.specs.Generate.{Around}
use Rattle.vl_design.specs.Declarations as d
use Rattle.vl_constants.specs.Needed.{constants_of}
use Rattle.vl_frames.specs.Changes.{hidden}
use Rattle.vl_frames.specs.Named.{function_named}
use Rattle.vl_declares.specs.Plain.{all_plain, plain_routine}
use Rattle.vl_declares.proofs.function.declare_function.Goals as goal

pub returns : goal.returns
returns c =
    let was = c.args.frames.now in let k = constants_of was in let f = view.function c.args.function.now in
    let r = c.in_ok-result.ensures in let b = c.in_ok-body.ensures in
    let kn : constants_of c.hide_function.new.frames ≡ d.in_function f k =
    ap (λ (a : Around). a.known) (c.in_ok-hide_function.ensures.sight ∙ ap (hidden (function_named f)) c.in_ok-enter.ensures.sight) in
    let routine : plain_routine c.in_ok-body.body.routine ≡ d.routine_of k f = λ i. record {
      result = (b.result ∙ r.local) i;
      inputs = (b.inputs ∙ ap (λ (q : Known). d.header_inputs q false one_bit f.ports ++ each_of (d.declared_inputs q) f.declarations) kn) i;
      locals = (b.locals ∙ ap (λ (q : Known). d.header_inputs q false one_bit f.ports ++ each_of (d.declared_locals q) f.declarations) kn) i;
    } in
    record {
      added = c.in_ok-push.ensures ∙ ap (λ (q : d.Routine). all_plain c.args.declared.now.items ++ d.routine q ∷ []) routine;
      fault = c.lesser.ensures
          ∙ (λ i. lesser (r.fault i)
          ((b.fault ∙ ap (λ (q : Known). least (each_of (d.input_needs q) f.ports ++ each_of (d.declaration_needs q) f.declarations)) kn) i))
          ∙ sym (least_joined (d.result_needs k f.result)
          (each_of (d.input_needs (d.in_function f k)) f.ports ++ each_of (d.declaration_needs (d.in_function f k)) f.declarations));
      frames = c.leave.ensures was.outer.items was.inner (c.in_ok-hide_function.ensures.outer ∙ c.in_ok-enter.ensures.outer);
    }
