use Rattle.std.proofs.Common.{◌≡◌, length, take}
use Rattle.flat_ir.specs.FlatRun.{Flat}
use Rattle.one_block.specs.OneBlock.{IsOneBlock}
use Rattle.one_block.specs.SameDesign.{register_ranges}
use Rattle.one_block.specs.Calls.Nodes.{Stands}
use Rattle.one_block.specs.Calls.Registers.{Takes}
use Rattle.one_block.proofs.registers.next_nodes.Given as goal

-- each register takes its value after the actions so far
abbrev pub invariant-loop-action : goal.invariant-loop-action
invariant-loop-action l = record {
  count : length l.next.items ≡ length l.registers;
  taken : (p : Flat) → IsOneBlock p → l.registers ≡ register_ranges 0 p.signals → Stands p l.initial.nodes l.made
      → Takes p l.initial.nodes l.nodes l.registers l.next.items (take l.action-index l.actions);
}
