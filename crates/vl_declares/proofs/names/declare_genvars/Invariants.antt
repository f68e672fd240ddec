use Rattle.std.proofs.Common.{◌≡◌, ◌++◌, map, drop}
use Rattle.vl_tree.specs.SyntaxView as view
use Rattle.vl_declares.specs.Plain.{all_plain, genvars}
use Rattle.vl_declares.proofs.names.declare_genvars.Given as goal

-- what was declared, and what is left
abbrev pub invariant-loop-name : goal.invariant-loop-name
invariant-loop-name l = all_plain l.declared.items ++ genvars (map view.name (drop l.name-index l.names))
    ≡ all_plain l.fn.declared.items ++ genvars (map view.name l.names)
