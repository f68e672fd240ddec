use Rattle.std.proofs.Common.{drop, map}
use Rattle.vl_tree.specs.SyntaxView as view
use Rattle.vl_opening.specs.Entering.{begins}
use Rattle.vl_opening.proofs.Passing.{Leads}
use Rattle.vl_opening.proofs.instance.begin_all.Given as goal

abbrev pub invariant-loop-instance : goal.invariant-loop-instance
invariant-loop-instance l =
    Leads (map begins (map view.instance l.instances)) (map begins (map view.instance (drop l.instance-index l.instances))) l.initial.walk l.walk
