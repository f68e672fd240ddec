use Rattle.std.proofs.Common.{◌++◌, [], append-nil, map, sym, ap, subst, refl, ◌∙◌}
use Rattle.std.specs.Option.{option_map}
use Rattle.vl_tree.specs.SyntaxView as view
use Rattle.vl_value.specs.Order.{lesser, least}
use Rattle.vl_value.proofs.OrderLaws.{least_joined}
use Rattle.vl_design.specs.Generate.{Around}
use Rattle.vl_design.specs.Spans.{range_needs}
use Rattle.vl_design.specs.Parameters.{parameter_needs}
use Rattle.vl_constants.specs.Needed.{constants_of}
use Rattle.vl_parameters.specs.Plain.{plain_given, plain_type}
use Rattle.vl_declares.proofs.Adding.{range_copied}
use Rattle.vl_design.specs.Parameters.{parameter_type}
use Rattle.vl_declares.specs.Values.{DeclaresHeaderOne}
use Rattle.vl_declares.proofs.header.declare_header_one.Goals as goal

pub returns-in_ok-found-in-Declared : goal.returns-in_ok-found-in-Declared
returns-in_ok-found-in-Declared c =
    let gs = map plain_given c.args.given.now in let y = plain_type c.args.kind in
    let k = constants_of c.args.frames.now in let u = plain_type c.in_ok-typed-in-Declared.typed.kind in
    let x = view.name c.in-Declared.name in let e = view.expr c.in-Declared.own in
    let s = c.in-Declared.signed in let r = option_map view.range c.in-Declared.range in
    let ty = c.in_ok-typed-in-Declared.ensures in let d = c.in_ok-found-in-Declared.ensures in
    let rr = range_copied c.as_ref.result ∙ ap (option_map view.range) c.as_ref.ensures.value in
    let ns = parameter_needs gs k u x e in
    subst (λ h. DeclaresHeaderOne gs y h u c.args.frames.now c.declare_one.new.frames c.args.declared.now.items c.declare_one.new.declared.items c.lesser.result)
    (sym (ap view.header_parameter c.in-Declared.is))
    (record {
      kind = ty.kind ∙ ap (parameter_type k s) rr;
      added = d.added;
      fault = c.lesser.ensures
          ∙ (λ i. lesser ((ty.fault ∙ ap (λ q. least (range_needs k q)) rr) i) ((d.fault ∙ ap least (sym (append-nil ns))) i))
          ∙ sym (least_joined (range_needs k r) (ns ++ []));
      known = ap (λ (a : Around). a.known) d.sight;
      genvars = ap (λ (a : Around). a.is_genvar) d.sight;
      outer = d.outer;
    })

pub returns-in_ok-found-in-Next : goal.returns-in_ok-found-in-Next
returns-in_ok-found-in-Next c =
    let gs = map plain_given c.args.given.now in let y = plain_type c.args.kind in
    let k = constants_of c.args.frames.now in
    let x = view.name c.in-Next.name in let e = view.expr c.in-Next.own in
    let d = c.in_ok-found-in-Next.ensures in
    subst (λ h. DeclaresHeaderOne gs y h y c.args.frames.now c.declare_one-in-Next.new.frames c.args.declared.now.items c.declare_one-in-Next.new.declared.items c.in_ok-found-in-Next.found)
    (sym (ap view.header_parameter c.in-Next.is))
    (record {
      kind = refl;
      added = d.added;
      fault = d.fault ∙ ap least (sym (append-nil (parameter_needs gs k y x e)));
      known = ap (λ (a : Around). a.known) d.sight;
      genvars = ap (λ (a : Around). a.is_genvar) d.sight;
      outer = d.outer;
    })
