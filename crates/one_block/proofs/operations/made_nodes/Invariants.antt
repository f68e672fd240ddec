use Rattle.std.proofs.Common.{◌≡◌, length, []}
use Rattle.flat_ir.specs.FlatRun.{Flat}
use Rattle.one_block.specs.Calls.Nodes.{Led, MakesAll}
use Rattle.one_block.proofs.operations.made_nodes.Given as goal

-- the old nodes so far have nodes of their values
abbrev pub invariant-loop-node : goal.invariant-loop-node
invariant-loop-node l = record {
  count : length l.made.items ≡ l.node-index;
  made : (p : Flat) → l.plain ≡ p.nodes → Led p l.table.signals.items l.table.inputs.items l.table.registers.items l.initial.nodes []
      → MakesAll p l.initial.nodes l.nodes l.made.items;
}
