use Rattle.std.proofs.Common.{◌≡◌, ◌++◌, drop}
use Rattle.one_block.specs.Calls.Nodes.{reads_from}
use Rattle.one_block.proofs.table.Table.read.Given as goal

-- what was read, and what is left
abbrev pub invariant-loop-number : goal.invariant-loop-number
invariant-loop-number l =
    l.nodes ++ reads_from l.number (drop l.number l.self.signals.items) ≡ reads_from 0 l.self.signals.items
