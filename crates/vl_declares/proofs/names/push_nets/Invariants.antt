use Rattle.std.proofs.Common.{◌≡◌, ◌++◌, map, drop}
use Rattle.vl_tree.specs.SyntaxView as view
use Rattle.vl_span.specs.Plain.{plain_span}
use Rattle.vl_declares.specs.Plain.{all_plain, nets}
use Rattle.vl_declares.proofs.names.push_nets.Given as goal

-- what was declared, and what is left
abbrev pub invariant-loop-net : goal.invariant-loop-net
invariant-loop-net l = all_plain l.declared.items ++ nets l.signed (plain_span l.span) (map view.net (drop l.net-index l.nets))
    ≡ all_plain l.fn.declared.items ++ nets l.signed (plain_span l.span) (map view.net l.nets)
