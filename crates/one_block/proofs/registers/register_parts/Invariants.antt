use Rattle.std.proofs.Common.{◌≡◌, ◌++◌, drop}
use Rattle.one_block.specs.Calls.Registers.{parts_of}
use Rattle.one_block.proofs.registers.register_parts.Given as goal

-- what was made, and what is left
abbrev pub invariant-loop-number : goal.invariant-loop-number
invariant-loop-number l =
    l.parts.items ++ parts_of (drop l.number l.registers) (drop l.number l.next) ≡ parts_of l.registers l.next
