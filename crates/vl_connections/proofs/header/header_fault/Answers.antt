use Rattle.std.proofs.Common.{◌+◌, ◌∷◌, map, drop, sym, ap, ◌∙◌}
use Rattle.std.proofs.lemmas.List.{drop_all}
use Rattle.std.specs.Option.{option_map}
use Rattle.vl_tree.specs.SyntaxView as view
use Rattle.vl_value.specs.Order.{lesser, least}
use Rattle.vl_found.specs.View.{found}
use Rattle.vl_names.specs.Names.{has}
use Rattle.vl_design.specs.Lists.{stands_in}
use Rattle.vl_parameters.proofs.Adding.{fault_on, fault_end}
use Rattle.vl_connections.specs.Connections.{bare_by, bare_here}
use Rattle.vl_connections.proofs.Connecting.{known_on, port-drop, bare_on}
use Rattle.vl_connections.proofs.header.header_fault.Goals as goal

pub loop-port-preserved : goal.loop-port-preserved
loop-port-preserved c =
    let f = has c.args.directed.now in
    let all = c.args.ports.now in let k = c.loop-port.port-index in let p = view.port c.port-item.result in
    let x = view.name c.in-Some.name.now in let h = c.loop-port.invariant in let before = h.0 in
    let left = map view.port (drop (k + 1) all) in
    let e = port-drop all k c.port-item.result c.loop-port-test.true c.port-item.is in
    let so_far = option_map found c.loop-port.fault in
    let known = c.has-is_known.ensures ∙ h.1 x.text in (
      x.text ∷ before,
      known_on c.loop-port.names c.add.new.self x.text before c.in_ok-add.ensures h.1,
      fault_on so_far _ _ (bare_here (stands_in before x.text) (f x.text) x) (bare_by f (x.text ∷ before) left) _ c.lesser-fault.ensures
          (c.bare_fault.ensures ∙ (λ i. least (bare_here (known i) (c.has-is_directed.ensures i) x)))
          (ap (λ fs. lesser so_far (least fs)) (sym (bare_on f before p left x c.in-Some.ensures))
          ∙ ap (λ ps. lesser so_far (least (bare_by f before ps))) (sym e) ∙ h.2),
    )

pub returns : goal.returns
returns c =
    let f = has c.args.directed.now in
    let h = c.loop-port.invariant in let so_far = option_map found c.loop-port.fault in
    let e = drop_all c.loop-port.port-index c.args.ports.now c.loop-port-test.false in
    sym (fault_end so_far) ∙ ap (λ ps. lesser so_far (least (bare_by f h.0 (map view.port ps)))) (sym e) ∙ h.2
