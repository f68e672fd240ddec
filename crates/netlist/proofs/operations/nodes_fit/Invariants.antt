use Rattle.std.proofs.Common.{ℕ, ◌<◌, get_or}
use Rattle.netlist.specs.Fits.{NodeFits}
use Rattle.netlist.specs.declared.node.Node.{Node}
use Rattle.netlist.proofs.operations.nodes_fit.Given as goal

-- each node so far fits
abbrev pub invariant-loop-number : goal.invariant-loop-number
invariant-loop-number l = (k : ℕ) (d : Node) → k < l.number → NodeFits l.signals l.memories l.nodes k
    (get_or l.nodes k d)
