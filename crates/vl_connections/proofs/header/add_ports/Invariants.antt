use Rattle.std.proofs.Common.{◌≡◌, ◌||◌, map, drop}
use Rattle.vl_tree.specs.SyntaxView as view
use Rattle.vl_value.specs.Paths.{Text}
use Rattle.vl_names.specs.Names.{has}
use Rattle.vl_connections.specs.Connections.{is_header_port}
use Rattle.vl_connections.proofs.header.add_ports.Given as goal

-- the names of what is left, and those so far
abbrev pub invariant-loop-port : goal.invariant-loop-port
invariant-loop-port l = (x : Text) → (is_header_port (map view.port (drop l.port-index l.ports)) x || has l.names x)
    ≡ (is_header_port (map view.port l.ports) x || has l.fn.names x)
