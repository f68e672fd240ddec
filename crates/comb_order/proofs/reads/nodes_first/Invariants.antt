use Rattle.std.proofs.Common.{◌≡◌, length}
use Rattle.comb_order.specs.First.{NodesFirst}
use Rattle.comb_order.proofs.reads.nodes_first.Given as goal

-- each node so far has an entry
abbrev pub invariant-loop-number : goal.invariant-loop-number
invariant-loop-number l = record {
  count : length l.firsts.items ≡ l.number;
  each : NodesFirst l.flat l.ranks l.firsts.items;
}
