use Rattle.std.proofs.Common.{◌++◌, ◌∷◌, [], ap, ◌∙◌}
use Rattle.std.specs.Option.{option_map}
use Rattle.vl_tree.specs.SyntaxView as view
use Rattle.vl_value.specs.Order.{least}
use Rattle.vl_design.specs.Spans.{optional_span, range_needs}
use Rattle.vl_constants.specs.Needed.{constants_of}
use Rattle.vl_declares.specs.Plain.{all_plain}
use Rattle.vl_declares.proofs.Adding.{range_copied}
use Rattle.vl_declares.proofs.PortByPort.{port_declared, port_named}
use Rattle.vl_declares.proofs.header_ports.declare_port.Goals as goal

pub returns-in_ok-push-in-Declared : goal.returns-in_ok-push-in-Declared
returns-in_ok-push-in-Declared c =
    let k = constants_of c.args.frames.now in let old = c.args.declared.now.items in
    let rr = range_copied c.as_ref.result ∙ ap (option_map view.range) c.as_ref.ensures.value in
    let r = c.in_ok-ranged-in-Declared.ensures in
    port_declared k c.args.words (view.port c.args.port.now) (view.name c.in-Declared.name) old c.push.new.declared.items _ _
    (ap view.port c.in-Declared.is) (r.span ∙ ap (optional_span k) rr)
    (c.in_ok-push-in-Declared.ensures ∙ ap (λ d. all_plain old ++ d ∷ []) c.port_by.ensures)
    (r.fault ∙ ap (λ q. least (range_needs k q)) rr)

pub returns-in_ok-declare_named-in-Named : goal.returns-in_ok-declare_named-in-Named
returns-in_ok-declare_named-in-Named c =
    port_named (constants_of c.args.frames.now) c.args.words (view.port c.args.port.now) (view.name c.in-Named.name)
    c.args.declared.now.items c.declare_named.new.declared.items
    (ap view.port c.in-Named.is) c.requires c.in_ok-declare_named-in-Named.ensures
