use Rattle.std.proofs.Common.{◌≡◌, drop, map}
use Rattle.vl_tree.specs.SyntaxView.{module_tree}
use Rattle.vl_front.specs.Top as spec
use Rattle.vl_front.proofs.top.has_module.Given as goal

-- whether one of the modules that are left has the name is whether one of all has it
abbrev pub invariant-loop-module : goal.invariant-loop-module
invariant-loop-module l =
    spec.has_module l.name (map module_tree (drop l.module-index l.modules)) ≡ spec.has_module l.name (map module_tree l.modules)
