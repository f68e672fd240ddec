use Rattle.std.proofs.Common.{◌+◌, ◌||◌, map, drop, sym, ap, ◌∙◌}
use Rattle.std.proofs.lemmas.List.{drop_all}
use Rattle.vl_tree.specs.Syntax as t
use Rattle.vl_tree.specs.SyntaxView as view
use Rattle.vl_names.specs.Names.{has}
use Rattle.vl_connections.specs.Connections.{is_header_port}
use Rattle.vl_connections.proofs.Connecting.{ports_on, port-drop}
use Rattle.vl_connections.proofs.header.add_ports.Goals as goal

pub loop-port-preserved : goal.loop-port-preserved
loop-port-preserved c =
    let all = c.args.ports.now in let k = c.loop-port.port-index in
    let e = port-drop all k c.port-item.result c.loop-port-test.true c.port-item.is in
    ports_on c.args.names.now c.loop-port.names c.add.new.self (view.port c.port-item.result) _ (map view.port (drop (k + 1) all)) (map view.port all)
    (ap (λ (n : t.Name). n.text) c.port_name.ensures) c.in_ok-add.ensures
    (λ x. ap (λ ps. is_header_port ps x || has c.loop-port.names x) (sym e) ∙ c.loop-port.invariant x)

pub returns : goal.returns
returns c =
    let e = drop_all c.loop-port.port-index c.args.ports.now c.loop-port-test.false in
    λ x. ap (λ ps. is_header_port (map view.port ps) x || has c.loop-port.names x) (sym e) ∙ c.loop-port.invariant x
