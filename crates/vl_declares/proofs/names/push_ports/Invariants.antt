use Rattle.std.proofs.Common.{◌≡◌, ◌++◌, map, drop}
use Rattle.vl_tree.specs.SyntaxView as view
use Rattle.vl_span.specs.Plain.{plain_span}
use Rattle.vl_declares.specs.Plain.{all_plain, ports}
use Rattle.vl_declares.proofs.names.push_ports.Given as goal

-- what was declared, and what is left
abbrev pub invariant-loop-name : goal.invariant-loop-name
invariant-loop-name l = all_plain l.declared.items ++ ports (view.directed l.directed) (plain_span l.span) (map view.name (drop l.name-index l.names))
    ≡ all_plain l.fn.declared.items ++ ports (view.directed l.directed) (plain_span l.span) (map view.name l.names)
