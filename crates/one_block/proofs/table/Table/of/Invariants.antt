use Rattle.std.proofs.Common.{◌≡◌, ◌++◌, drop, map}
use Rattle.one_block.specs.SameDesign.{signal_of, input_places, register_ranges}
use Rattle.one_block.proofs.table.Table.of.Given as goal

-- what was added, and what is left
abbrev pub invariant-loop-number : goal.invariant-loop-number
invariant-loop-number l = record {
  signals : l.table.signals.items ++ map signal_of (drop l.number l.signals) ≡ map signal_of l.signals;
  inputs : l.table.inputs.items ++ input_places l.number (drop l.number l.signals) ≡ input_places 0 l.signals;
  registers : l.table.registers.items ++ register_ranges l.number (drop l.number l.signals) ≡ register_ranges 0 l.signals;
}
