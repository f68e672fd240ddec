use Rattle.std.proofs.Common.{◌≡◌, ◌++◌, map, drop}
use Rattle.vl_tree.specs.SyntaxView as view
use Rattle.vl_declares.specs.Plain.{all_plain, inner_ones}
use Rattle.vl_declares.proofs.names.declare_instances.Given as goal

-- what was declared, and what is left
abbrev pub invariant-loop-instance : goal.invariant-loop-instance
invariant-loop-instance l = all_plain l.declared.items ++ inner_ones (map view.instance (drop l.instance-index l.instances))
    ≡ all_plain l.fn.declared.items ++ inner_ones (map view.instance l.instances)
